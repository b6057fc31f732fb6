-- How a schedule grows by a word, and what its front says.
use Rattle.std.proofs.Common.{◌≡◌, ℕ, suc, ◌+◌, ◌-◌, ◌%◌, ◌^◌, ◌<◌, ◌≤◌, List, [], ◌∷◌, ◌++◌, length, get_or, take, set, refl, ◌∙◌, arith}
use Rattle.std.proofs.lemmas.List.FromFn.{fill_by_all}
use Rattle.std.proofs.lemmas.List.{get_or-take, length-take-le, take_all, take_more_set}
use Rattle.digest.specs.Sha256.{extended, next_word, word_at, words, σ0, σ1}

-- the word that comes after the front of t words
abbrev pub after : List ℕ → ℕ → ℕ
after w t = (σ1 (get_or w (t - 2) 0) + get_or w (t - 7) 0 + σ0 (get_or w (t - 15) 0) + get_or w (t - 16) 0) % 2 ^ 32

next_after : (w : List ℕ) (t : ℕ) → length (take t w) ≡ t → 16 ≤ t → next_word (take t w) ≡ after w t
unfolding next_word
next_after w t long h =
    let at2 = get_or-take t w (t - 2) 0 (omega arith) in
    let at7 = get_or-take t w (t - 7) 0 (omega arith) in
    let at15 = get_or-take t w (t - 15) 0 (omega arith) in
    let at16 = get_or-take t w (t - 16) 0 (omega arith) in
    cc

-- one word more is written, and one fewer is to come
pub extended_more :
    (w : List ℕ) (t v : ℕ) → length w ≡ 64 → 16 ≤ t → t < 64 → v ≡ after w t
    → extended (64 - (t + 1)) (take (t + 1) (set w t v)) ≡ extended (64 - t) (take t w)
unfolding extended
extended_more w t v long low high is =
    let front : take (t + 1) (set w t v) ≡ take t w ++ v ∷ [] = take_more_set w t v (omega arith) in
    let next : next_word (take t w) ≡ after w t = next_after w t (length-take-le t w (omega arith)) low in
    let left : 64 - t ≡ suc (64 - (t + 1)) = omega arith in
    let step : extended (suc (64 - (t + 1))) (take t w) ≡ extended (64 - (t + 1)) (take t w ++ next_word (take t w) ∷ []) = refl in
    cc

-- the front of sixteen words, by places
pub words_from : (w m : List ℕ) → length w ≡ 64 → ((k : ℕ) → k < 16 → get_or w k 0 ≡ word_at m k) → take 16 w ≡ words m
unfolding words
words_from w m long each =
    fill_by_all (word_at m) (take 16 w) 16 0 (length-take-le 16 w (omega arith)) (λ k h. get_or-take 16 w k 0 h ∙ each k h)

-- all words are written
pub extended_all :
    (w s : List ℕ) (t : ℕ) → length w ≡ 64 → 64 ≤ t → t ≤ 64 → extended (64 - t) (take t w) ≡ s → w ≡ s
unfolding extended
extended_all w s t long low high is =
    let none : 64 - t ≡ 0 = omega arith in
    let all : take t w ≡ w = take_all t w (omega arith) in
    cc
