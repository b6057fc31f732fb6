-- How far true time goes on while the local clock counts n ticks, if the clock is at most d millionths fast or slow: as a relation between two true times, and as the least and the most in whole microseconds.
use Rattle.std.specs.Prelude.{◌≡◌, ℕ, ◌+◌, ◌-◌, ◌*◌, ◌/◌, ◌^◌, ◌≤◌, min, Bool, ◌&&◌, nat_le}

abbrev pub million : ℕ
million = 1000000

-- true time can be t at one moment and u at another n ticks later: it went on by at least n (million - d) / million and by at most n (million + d) / million
abbrev pub Fits : ℕ → ℕ → ℕ → ℕ → Type 0
Fits d n t u = (million * t + n * (million - d) ≤ million * u) × (million * u ≤ million * t + n * (million + d))

-- the least that it goes on, rounded up
abbrev pub least : ℕ → ℕ → ℕ
least d n = (n * (million - d) + (million - 1)) / million

-- the most that it goes on, rounded down
abbrev pub most : ℕ → ℕ → ℕ
most d n = n * (million + d) / million

-- true time can go on by u in n ticks
abbrev pub allowed : ℕ → ℕ → ℕ → Bool
allowed d n u = nat_le (least d n) u && nat_le u (most d n)

-- d millionths of n, rounded down
abbrev pub share : ℕ → ℕ → ℕ
share d n = n * d / million

-- the least and the most that true time goes on in n ticks, as numbers of 64 bits: the most stops at the largest of these
pub record Strides (d n low high : ℕ) : Type 0 where
  pub low_is : low ≡ least d n
  pub high_is : high ≡ min (most d n) (2 ^ 64 - 1)
