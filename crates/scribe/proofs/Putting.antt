-- What memory holds where parts are written to it one after another.
use Rattle.std.proofs.Common.{◌≡◌, ℕ, ◌+◌, ◌*◌, ◌<◌, ◌≤◌, List, [], ◌∷◌, ◌++◌, length, get_or, take, drop, set, sym, refl, ap, ◌∙◌, arith}
use borrow.Rule.Slice.PartMut.{put_mid}
use Rattle.std.specs.List.{flat_map}
use Rattle.std.proofs.lemmas.List.{append_assoc, append-nil, drop_all, drop_at, drop-drop, drop_more, flat_map_more, length-append, length-take-le, set_at, take_all, take_at, take_more}
use Rattle.lines.specs.Lines.{run_bytes}
use Rattle.wire.specs.Numbers.{be2, be8}
use Rattle.lines.proofs.Runs.{length_runs}
use Rattle.choice.specs.declared.runs.Run.{Run}

-- a part after those that are written
pub next_part : (fs bs xs ys : List ℕ) (n k m : ℕ) → length fs ≡ n → m ≡ n + k → ys ≡ fs ++ drop n xs → put_mid n k ys bs ≡ (fs ++ bs) ++ drop m xs
next_part fs bs xs ys n k m long at_m so_far =
    ap (λ l. put_mid n k l bs) so_far
    ∙ ap (λ l. l ++ (bs ++ drop k (drop n (fs ++ drop n xs)))) (take_at fs (drop n xs) n long)
    ∙ ap (λ l. fs ++ (bs ++ drop k l)) (drop_at fs (drop n xs) n long)
    ∙ ap (λ l. fs ++ (bs ++ l)) (drop-drop k n xs ∙ ap (λ i. drop i xs) (sym at_m))
    ∙ sym (append_assoc fs bs (drop m xs))

-- a byte after those that are written
pub next_byte : (fs xs ys : List ℕ) (n v : ℕ) → length fs ≡ n → n < length xs → ys ≡ fs ++ drop n xs → set ys n v ≡ (fs ++ v ∷ []) ++ drop (n + 1) xs
next_byte fs xs ys n v long h so_far =
    ap (λ l. set l n v) (so_far ∙ ap (λ l. fs ++ l) (drop_more xs n 0 h))
    ∙ set_at fs (get_or xs n 0) (drop (n + 1) xs) v n long
    ∙ sym (append_assoc fs (v ∷ []) (drop (n + 1) xs))

-- a run after those that are written
pub next_run : (rs : List Run) (bs xs ys : List ℕ) (i k : ℕ) (d : Run) → i < length rs → k ≡ 16 → bs ≡ run_bytes (get_or rs i d)
    → ys ≡ flat_map run_bytes (take i rs) ++ drop (16 * i) xs → put_mid (16 * i) k ys bs ≡ flat_map run_bytes (take (i + 1) rs) ++ drop (16 * (i + 1)) xs
next_run rs bs xs ys i k d h sixteen is so_far =
    let long : length (flat_map run_bytes (take i rs)) ≡ 16 * i = length_runs (take i rs) ∙ ap (λ n. 16 * n) (length-take-le i rs (omega arith)) in
    next_part (flat_map run_bytes (take i rs)) bs xs ys (16 * i) k (16 * (i + 1)) long (omega arith) so_far
    ∙ ap (λ l. (flat_map run_bytes (take i rs) ++ l) ++ drop (16 * (i + 1)) xs) is
    ∙ ap (λ l. l ++ drop (16 * (i + 1)) xs) (flat_map_more run_bytes [] (take i rs) (get_or rs i d) ∙ ap (flat_map run_bytes) (sym (take_more rs i d h)))

-- all runs
pub runs_all : (rs : List Run) (xs ys : List ℕ) (i : ℕ) → length xs ≡ 16 * length rs → length rs ≤ i → i ≤ length rs
    → ys ≡ flat_map run_bytes (take i rs) ++ drop (16 * i) xs → ys ≡ flat_map run_bytes rs
runs_all rs xs ys i long low high so_far =
    so_far
    ∙ ap (λ l. flat_map run_bytes (take i rs) ++ l) (drop_all (16 * i) xs (omega arith))
    ∙ append-nil (flat_map run_bytes (take i rs))
    ∙ ap (flat_map run_bytes) (take_all i rs low)

-- the parts of a reckoned line, where the runs take n bytes
pub reckoned_written : (count many named n k l m : ℕ) (xs first middle last runs : List ℕ) → first ≡ be8 count → middle ≡ runs → last ≡ be2 named
    → length runs ≡ n → k ≡ n → l ≡ 2 → m ≡ 10 + n + 2 → m ≤ length xs
    → put_mid (10 + n) l (put_mid 10 k (set (put_mid 1 8 (set xs 0 4) first) 9 many) middle) last ≡ (4 ∷ (be8 count ++ many ∷ (runs ++ be2 named))) ++ drop m xs
reckoned_written count many named n k l m xs first middle last runs first_is middle_is last_is long k_is l_is m_is fits =
    let head : List ℕ = 4 ∷ be8 count in
    let numbered : List ℕ = head ++ many ∷ [] in
    let a : set xs 0 4 ≡ (4 ∷ []) ++ drop 1 xs = next_byte [] xs xs 0 4 refl (omega arith) refl in
    let b : put_mid 1 8 (set xs 0 4) first ≡ head ++ drop 9 xs = next_part (4 ∷ []) first xs _ 1 8 9 refl refl a ∙ ap (λ f. (4 ∷ f) ++ drop 9 xs) first_is in
    let c : set (put_mid 1 8 (set xs 0 4) first) 9 many ≡ numbered ++ drop 10 xs = next_byte head xs _ 9 many refl (omega arith) b in
    let d : put_mid 10 k (set (put_mid 1 8 (set xs 0 4) first) 9 many) middle ≡ (numbered ++ runs) ++ drop (10 + n) xs
    = next_part numbered middle xs _ 10 k (10 + n) refl (omega arith) c ∙ ap (λ f. (numbered ++ f) ++ drop (10 + n) xs) middle_is in
    next_part (numbered ++ runs) last xs _ (10 + n) l m (length-append numbered runs ∙ ap (λ i. 10 + i) long) (omega arith) d
    ∙ ap (λ f. ((numbered ++ runs) ++ f) ++ drop m xs) last_is
    ∙ ap (λ f. (4 ∷ f) ++ drop m xs) (append_assoc (be8 count ++ many ∷ []) runs (be2 named) ∙ append_assoc (be8 count) (many ∷ []) (runs ++ be2 named))
