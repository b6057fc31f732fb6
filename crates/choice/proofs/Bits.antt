-- Sets of servers as bits of a number: each set is a choice, with as many bits as it has members.
use Rattle.std.proofs.Common.{◌≡◌, ℕ, zero, suc, ◌+◌, ◌*◌, ◌/◌, ◌%◌, ◌^◌, ◌<◌, ◌≤◌, Bool, true, false, cond, eqb, sym, refl, ap, ◌∙◌, ap₂, ⊎_elim, lt_of_lt_of_le, pow-suc, div-one, one-add, arith, pow_mono, shr-shr}
use native.Mathlib.Nat.{pow-zero, div-eq_of_lt}
use lib.Count.{ones, ones_step}
use Rattle.std.proofs.lemmas.Bool.Decides.{nat_tests}
use Rattle.std.proofs.lemmas.Bool.{cases_lt}
use Rattle.span.specs.World.{Faulty, how_many}
use Rattle.choice.specs.Choice.{bit, choice_of}

-- the bits of c from the second on are those of its half
bit_half : (c v : ℕ) → bit c (suc v) ≡ bit (c / 2) v
bit_half c v = ap (λ x. eqb (x % 2) 1) (ap (λ k. c / 2 ^ k) (sym (one-add v)) ∙ sym (shr-shr c 1 v))

bit_low : (c : ℕ) → bit c 0 ≡ eqb (c % 2) 1
bit_low c = ap (λ x. eqb (x % 2) 1) (ap (λ k. c / k) (pow-zero 2) ∙ div-one c)

-- beyond its size a number has no bits
pub bit_beyond : (c n v : ℕ) → c < 2 ^ n → n ≤ v → bit c v ≡ false
bit_beyond c n v h k =
    let below : c < 2 ^ v = lt_of_lt_of_le h (pow_mono k) in
    ap (λ x. eqb (x % 2) 1) (div-eq_of_lt below)

pub bit_there : (c n v : ℕ) → c < 2 ^ n → bit c v ≡ true → v < n
bit_there c n v h e = ⊎_elim (λ below. below) (λ above. absurd (never (bit c v) (bit_beyond c n v h above) e)) (cases_lt v n) where
  never : (b : Bool) → b ≡ false → b ≡ true → ⊥
  never b p q = grind arith

-- how_many, by each server and by the first
pub many_same : (p q : Faulty) (n : ℕ) → ((v : ℕ) → v < n → p v ≡ q v) → how_many p n ≡ how_many q n
unfolding how_many
many_same p q zero h = refl
many_same p q (suc n) h = ap₂ (λ b x. cond b 1 0 + x) (h n (omega arith)) (many_same p q n (λ v k. h v (omega arith)))

many_first : (p : Faulty) (n : ℕ) → how_many p (suc n) ≡ cond (p 0) 1 0 + how_many (λ v. p (suc v)) n
unfolding how_many
many_first p zero = refl
many_first p (suc n) = omega (arith, many_first p n)

-- the bits of a number are as many as its set has members
low_count : (c : ℕ) → cond (eqb (c % 2) 1) 1 0 ≡ c % 2
low_count c = grind (arith, nat_tests)

pub ones_many : (n c : ℕ) → c < 2 ^ n → ones c ≡ how_many (bit c) n
unfolding how_many ones
ones_many zero c h = let z : c ≡ 0 = omega (arith, pow-zero 2) in ap ones z
ones_many (suc n) c h =
    let p = pow-suc 2 n in
    ones_step c
    ∙ ap₂ (λ x y. x + y) (sym (low_count c) ∙ ap (λ b. cond b 1 0) (sym (bit_low c))) (ones_many n (c / 2) (omega arith) ∙ sym (many_same (λ v. bit c (suc v)) (bit (c / 2)) n (λ v _. bit_half c v)))
    ∙ sym (many_first (bit c) n)

-- the choice of a set
first_bit : (b : Bool) (x : ℕ) → ((cond b 1 0 + x * 2) % 2 ≡ cond b 1 0) × ((cond b 1 0 + x * 2) / 2 ≡ x)
first_bit true x = (omega arith, omega arith)
first_bit false x = (omega arith, omega arith)

pub choice_below : (p : Faulty) (n : ℕ) → choice_of p n < 2 ^ n
unfolding choice_of
choice_below p zero = omega (arith, pow-zero 2)
choice_below p (suc n) = go (p 0) (choice_below (λ v. p (suc v)) n) where
  go : (b : Bool) → choice_of (λ v. p (suc v)) n < 2 ^ n → cond b 1 0 + choice_of (λ v. p (suc v)) n * 2 < 2 ^ suc n
  go true h = omega (arith, pow-suc 2 n)
  go false h = omega (arith, pow-suc 2 n)

pub choice_bit : (p : Faulty) (n v : ℕ) → v < n → bit (choice_of p n) v ≡ p v
unfolding choice_of
choice_bit p zero v h = absurd (omega arith)
choice_bit p (suc n) zero h = bit_low (choice_of p (suc n)) ∙ ap (λ x. eqb x 1) (first_bit (p 0) (choice_of (λ v. p (suc v)) n)).0 ∙ back (p 0) where
  back : (b : Bool) → eqb (cond b 1 0) 1 ≡ b
  back true = refl
  back false = refl
choice_bit p (suc n) (suc v) h =
    bit_half (choice_of p (suc n)) v
    ∙ ap (λ x. bit x v) (first_bit (p 0) (choice_of (λ v. p (suc v)) n)).1
    ∙ choice_bit (λ v. p (suc v)) n v (omega arith)

pub choice_ones : (p : Faulty) (n : ℕ) → ones (choice_of p n) ≡ how_many p n
choice_ones p n = ones_many n (choice_of p n) (choice_below p n) ∙ many_same (bit (choice_of p n)) p n (λ v h. choice_bit p n v h)

-- one server more: its bit is the next
pub choice_top : (p : Faulty) (n : ℕ) → choice_of p (suc n) ≡ choice_of p n + cond (p n) (2 ^ n) 0
unfolding choice_of
choice_top p zero = ap (λ x. cond (p 0) 1 0 + x) (omega arith) ∙ first (p 0) where
  first : (b : Bool) → cond b 1 0 + 0 ≡ 0 + cond b (2 ^ 0) 0
  first true = refl
  first false = refl
choice_top p (suc n) = go (p (suc n)) (choice_top (λ v. p (suc v)) n) where
  go : (b : Bool) → choice_of (λ v. p (suc v)) (suc n) ≡ choice_of (λ v. p (suc v)) n + cond b (2 ^ n) 0 → cond (p 0) 1 0 + choice_of (λ v. p (suc v)) (suc n) * 2 ≡ cond (p 0) 1 0 + choice_of (λ v. p (suc v)) n * 2 + cond b (2 ^ suc n) 0
  go true h = omega (arith, pow-suc 2 n)
  go false h = omega arith
