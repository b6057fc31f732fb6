-- Products with millionths: cut in two nothing is lost, and least and most by the drift's share.
use Rattle.std.proofs.Common.{◌≡◌, ℕ, ◌+◌, ◌-◌, ◌*◌, ◌/◌, ◌%◌, ◌≤◌, true, Decides, sym, ap, ◌∙◌, add-mul, mul-le-mul_left, div-add-mod', mul-add, mul_right_comm, arith}
use native.Mathlib.Nat.{mul-sub}
use Rattle.std.proofs.lemmas.Bool.Decides.{nat_tests}
use Rattle.span.specs.Rate.{million, Fits, least, most, allowed, share}

-- n ticks are whole millions and a rest, and so is their product with k
split : (n k : ℕ) → n / million * k * million + n % million * k ≡ n * k
split n k =
    ap (λ x. x + n % million * k) (mul_right_comm (n / million) k million)
    ∙ sym (add-mul (n / million * million) (n % million) k)
    ∙ ap (λ x. x * k) (div-add-mod' n million)

-- cut in two, the product of n and k in millionths is the same
pub cut_in_two : (n k : ℕ) → n / million * k + n % million * k / million ≡ share k n
cut_in_two n k = omega (arith, split n k)

pub share_below : (d n : ℕ) → d ≤ million → share d n ≤ n
share_below d n h = omega (arith, mul-le-mul_left n h)

pub least_by_share : (d n : ℕ) → d ≤ million → n - share d n ≡ least d n
least_by_share d n h = omega (arith, mul-sub n million d, mul-le-mul_left n h)

pub most_by_share : (d n : ℕ) → n + share d n ≡ most d n
most_by_share d n = omega (arith, mul-add n million d)

-- the local clock's own ticks lie between the least and the most
pub least_ticks : (d n : ℕ) → least d n ≤ n
least_ticks d n = let h : n * (million - d) ≤ n * million = mul-le-mul_left n (omega arith) in omega arith

pub ticks_most : (d n : ℕ) → n ≤ most d n
ticks_most d n = let h : n * million ≤ n * (million + d) = mul-le-mul_left n (omega arith) in omega arith

-- a step fits exactly if it is at least the least and at most the most
pub fits_between : (d n t u : ℕ) → Fits d n t u → (t + least d n ≤ u) × (u ≤ t + most d n)
fits_between d n t u h = (omega (arith, h.0), omega (arith, h.1))

pub between_fits : (d n t u : ℕ) → t + least d n ≤ u → u ≤ t + most d n → Fits d n t u
between_fits d n t u h k = (omega arith, omega arith)

pub allowed_fits : (d n t u : ℕ) → Decides (allowed d n u) (Fits d n t (t + u))
allowed_fits d n t u = (
  λ h. let f = ends h in between_fits d n t (t + u) (omega arith) (omega arith),
  λ f. let h = fits_between d n t (t + u) f in back (omega arith) (omega arith),
)
  where
    ends : allowed d n u ≡ true → (least d n ≤ u) × (u ≤ most d n)
    ends h = grind (arith, nat_tests)

    back : least d n ≤ u → u ≤ most d n → allowed d n u ≡ true
    back h k = grind (arith, nat_tests)
