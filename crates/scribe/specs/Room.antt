-- How much room a reckoned line wants.
use Rattle.std.specs.Prelude.{ℕ, ◌+◌, ◌*◌, Bool, ◌&&◌, nat_le}

-- whether so many runs are not too many for a line, nor too long for so much memory
abbrev pub room : ℕ → ℕ → Bool
room runs memory = nat_le runs 255 && nat_le (12 + 16 * runs) memory
