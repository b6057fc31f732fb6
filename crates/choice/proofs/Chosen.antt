-- The list of choices with just so many faulty servers: it has all of them and no others, and at most 252.
use Rattle.std.proofs.Common.{◌≡◌, ℕ, zero, suc, ◌+◌, ◌^◌, ◌<◌, ◌≤◌, Bool, true, false, cond, ◌&&◌, eqb, leb, ◌⊎◌, List, [], ◌∷◌, ◌++◌, length, get_or, sym, refl, ap, ◌∙◌, subst, ap₂, ⊎_elim, append-nil, add-zero, add-suc, add-one, pow-suc, zero-add, filter, arith, length-append}
use Rattle.std.specs.List.{range_with_len}
use Rattle.std.proofs.lemmas.List.FromFn.{filter_of_map_range_with_len_more}
use lib.Count.{ones, ones_cat}
use Rattle.std.proofs.lemmas.List.{map-id, get_or_append_left, get_or_push, length_push}
use Rattle.std.proofs.lemmas.Bool.{eq-eqb, ne_eqb, cases_eq, cases_lt, and_parts, leb-true}
use Rattle.std.proofs.lemmas.Bool.Decides.{nat_tests}
use Rattle.span.specs.World.{Rules}
use Rattle.choice.specs.Choice.{chosen}
use Rattle.choice.specs.Stands.{AllFull}

pub chosen_takes : (f c : ℕ) → ones c ≡ f → chosen f (suc c) ≡ chosen f c ++ c ∷ []
unfolding chosen
chosen_takes f c e = ap (λ b. chosen f c ++ cond b (c ∷ []) []) (eq-eqb (ones c) f e)

pub chosen_leaves : (f c : ℕ) → (ones c ≡ f → ⊥) → chosen f (suc c) ≡ chosen f c
unfolding chosen
chosen_leaves f c e = ap (λ b. chosen f c ++ cond b (c ∷ []) []) (ne_eqb (ones c) f e) ∙ append-nil (chosen f c)

-- each of them is below the bound and has just so many bits
abbrev Right : ℕ → ℕ → List ℕ → Type 0
Right f m cs = (k : ℕ) → k < length cs → (get_or cs k 0 < m) × (ones (get_or cs k 0) ≡ f)

pub chosen_full : (f m : ℕ) → Right f m (chosen f m)
unfolding chosen
chosen_full f zero = λ k h. absurd (omega arith)
chosen_full f (suc c) =
    ⊎_elim
    (λ e. subst (Right f (suc c)) (sym (chosen_takes f c e)) (one_more (chosen f c) (chosen_full f c) e))
    (λ e. subst (Right f (suc c)) (sym (chosen_leaves f c e)) (λ k h. let r = chosen_full f c k h in (omega (arith, r.0), r.1)))
    (cases_eq (ones c) f)
  where
    one_more : (cs : List ℕ) → Right f c cs → ones c ≡ f → Right f (suc c) (cs ++ c ∷ [])
    one_more cs right e k h =
        ⊎_elim
        (λ l. let r = right k l in let g = get_or_append_left cs (c ∷ []) 0 k l in (omega (arith, r.0, g), ap ones g ∙ r.1))
        (λ l. let g = get_or_push cs c 0 k (omega (arith, length_push cs c)) in (omega (arith, g), ap ones g ∙ e))
        (cases_lt k (length cs))

-- and each such number is among them
abbrev There : ℕ → List ℕ → Type 0
There c cs = (k : ℕ) × (k < length cs) × (get_or cs k 0 ≡ c)

pub chosen_all : (f m c : ℕ) → c < m → ones c ≡ f → There c (chosen f m)
chosen_all f zero c h e = absurd (omega arith)
chosen_all f (suc m) c h e =
    ⊎_elim
    (λ same. subst (λ x. There c (chosen f (suc x))) same (subst (There c) (sym (chosen_takes f c e)) (last (chosen f c))))
    (λ apart. still (cases_eq (ones m) f) (chosen_all f m c (omega arith) e))
    (cases_eq c m)
  where
    last : (cs : List ℕ) → There c (cs ++ c ∷ [])
    last cs = (length cs, omega (arith, length_push cs c), get_or_push cs c 0 (length cs) refl)

    still : (ones m ≡ f) ⊎ (ones m ≡ f → ⊥) → There c (chosen f m) → There c (chosen f (suc m))
    still d t =
        ⊎_elim
        (λ e. subst (There c) (sym (chosen_takes f m e)) (t.0, omega (arith, length_push (chosen f m) m, t.1), get_or_append_left (chosen f m) (m ∷ []) 0 t.0 t.1 ∙ t.2))
        (λ e. subst (There c) (sym (chosen_leaves f m e)) t)
        d

pub all_full : (r : Rules) (n f : ℕ) → r.servers ≡ n → r.faulty ≡ f → f < n → AllFull r (chosen f (2 ^ n))
all_full r n f s q l = record {
  fewer = omega arith;
  full = λ k h. let c = chosen_full f (2 ^ n) k h in record { there = subst (λ x. get_or (chosen f (2 ^ n)) k 0 < 2 ^ x) (sym s) c.0; many = c.1 ∙ sym q };
  all = λ c h. chosen_all f (2 ^ n) c (subst (λ x. c < 2 ^ x) s h.there) (h.many ∙ q);
}

-- How many there are: as many as there are ways to choose, by the triangle of such numbers.
unfoldable choose : ℕ → ℕ → ℕ
choose zero zero = 1
choose zero (suc f) = 0
choose (suc n) zero = choose n zero
choose (suc n) (suc f) = choose n (suc f) + choose n f

-- numbers below m that have f bits beside those of b
unfoldable among : ℕ → ℕ → ℕ → ℕ
among b f zero = 0
among b f (suc m) = among b f m + cond (eqb (ones (b + m)) f) 1 0

chosen_among : (f m : ℕ) → length (chosen f m) ≡ among 0 f m
unfolding chosen among
chosen_among f zero = refl
chosen_among f (suc m) = length-append (chosen f m) (cond (eqb (ones m) f) (m ∷ []) []) ∙ ap₂ (λ x y. x + y) (chosen_among f m) (one (eqb (ones m) f) ∙ ap (λ x. cond (eqb (ones x) f) 1 0) (sym (zero-add m))) where
  one : (b : Bool) → length (cond b (m ∷ []) []) ≡ cond b 1 0
  one true = refl
  one false = refl

among_more : (f m k : ℕ) → among 0 f (m + k) ≡ among 0 f m + among m f k
unfolding among
among_more f m zero = ap (among 0 f) (add-zero m) ∙ sym (add-zero (among 0 f m))
among_more f m (suc k) =
    ap (among 0 f) (add-suc m k)
    ∙ ap₂ (λ x y. x + cond (eqb (ones y) f) 1 0) (among_more f m k) (zero-add (m + k))
    ∙ omega arith

-- with the next bit before them, the numbers below 2 ^ n have one bit more
top_bit : (n a : ℕ) → a < 2 ^ n → ones (2 ^ n + a) ≡ 1 + ones a
unfolding ones
top_bit n a h = ap ones (omega arith) ∙ ones_cat n 1 a h

among_top : (n f k : ℕ) → k ≤ 2 ^ n → among (2 ^ n) (suc f) k ≡ among 0 f k
unfolding among
among_top n f zero h = refl
among_top n f (suc k) h =
    ap₂ (λ x y. x + cond y 1 0) (among_top n f k (omega arith))
    (ap (λ x. eqb x (suc f)) (top_bit n k (omega arith)) ∙ shift (ones k) f ∙ ap (λ x. eqb (ones x) f) (sym (zero-add k)))
  where
    shift : (x f : ℕ) → eqb (1 + x) (suc f) ≡ eqb x f
    shift x f = grind (arith, nat_tests)

none_top : (n k : ℕ) → k ≤ 2 ^ n → among (2 ^ n) 0 k ≡ 0
unfolding among
none_top n zero h = refl
none_top n (suc k) h =
    ap₂ (λ x y. x + cond y 1 0) (none_top n k (omega arith)) (ap (λ x. eqb x 0) (top_bit n k (omega arith)) ∙ never (ones k))
  where
    never : (x : ℕ) → eqb (1 + x) 0 ≡ false
    never x = grind (arith, nat_tests)

double : (n : ℕ) → 2 ^ suc n ≡ 2 ^ n + 2 ^ n
double n = omega (arith, pow-suc 2 n)

among_choose : (n f : ℕ) → among 0 f (2 ^ n) ≡ choose n f
unfolding choose among ones
among_choose zero zero = refl
among_choose zero (suc f) = ap (λ b. 0 + cond b 1 0) (apart f) where
  apart : (f : ℕ) → eqb 0 (suc f) ≡ false
  apart f = grind (arith, nat_tests)
among_choose (suc n) zero =
    ap (among 0 0) (double n) ∙ among_more 0 (2 ^ n) (2 ^ n) ∙ ap₂ (λ x y. x + y) (among_choose n zero) (none_top n (2 ^ n) (omega arith)) ∙ add-zero (choose n zero)
among_choose (suc n) (suc f) =
    ap (among 0 (suc f)) (double n) ∙ among_more (suc f) (2 ^ n) (2 ^ n) ∙ ap₂ (λ x y. x + y) (among_choose n (suc f)) (among_top n f (2 ^ n) (omega arith) ∙ among_choose n f)

-- up to ten servers there are at most 252 ways
small : ℕ → ℕ → Bool
small n zero = leb (choose n zero) 252
small n (suc f) = leb (choose n (suc f)) 252 && small n f

all_small : ℕ → Bool
all_small zero = small zero 10
all_small (suc n) = small (suc n) 10 && all_small n

checked : all_small 10 ≡ true
unfolding all_small small choose
checked = refl

small_at : (n m f : ℕ) → small n m ≡ true → f ≤ m → choose n f ≤ 252
unfolding small
small_at n zero f h l = subst (λ x. choose n x ≤ 252) (omega arith) (leb-true (choose n zero) 252 h)
small_at n (suc m) f h l =
    ⊎_elim
    (λ same. subst (λ x. choose n x ≤ 252) (sym same) (leb-true (choose n (suc m)) 252 (and_parts (leb (choose n (suc m)) 252) (small n m) h).0))
    (λ apart. small_at n m f (and_parts (leb (choose n (suc m)) 252) (small n m) h).1 (omega arith))
    (cases_eq f (suc m))

all_at : (m n : ℕ) → all_small m ≡ true → n ≤ m → small n 10 ≡ true
unfolding all_small
all_at zero n h l = subst (λ x. small x 10 ≡ true) (omega arith) h
all_at (suc m) n h l =
    ⊎_elim
    (λ same. subst (λ x. small x 10 ≡ true) (sym same) (and_parts (small (suc m) 10) (all_small m) h).0)
    (λ apart. all_at m n (and_parts (small (suc m) 10) (all_small m) h).1 (omega arith))
    (cases_eq n (suc m))

pub chosen_few : (n f : ℕ) → n ≤ 10 → f < n → length (chosen f (2 ^ n)) ≤ 252
chosen_few n f h l =
    let e = chosen_among f (2 ^ n) ∙ among_choose n f in
    omega (arith, e, small_at n 10 f (all_at 10 n checked h) (omega arith))

-- they are the numbers below the bound that have just so many bits
pub chosen_is : (f m : ℕ) → filter (λ c. eqb (ones c) f) (range_with_len 0 m) ≡ chosen f m
unfolding chosen
chosen_is f zero = refl
chosen_is f (suc m) =
    let few : ℕ → Bool = λ c. eqb (ones c) f in
    let one_more = filter_of_map_range_with_len_more few (λ x. x) 0 m m (zero-add m) in
    ap (λ n. filter few (range_with_len 0 n)) (sym (add-one m))
    ∙ ap (filter few) (sym (map-id (range_with_len 0 (m + 1))))
    ∙ one_more
    ∙ ap (λ l. filter few l ++ cond (few m) (m ∷ []) []) (map-id (range_with_len 0 m))
    ∙ ap (λ l. l ++ cond (few m) (m ∷ []) []) (chosen_is f m)
