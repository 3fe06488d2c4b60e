-- Why a straight step and a diagonal step never have the same slope: the square root of 2 is irrational.
use Rattle.std.specs.Prelude.{◌≡◌, ℕ, ◌*◌}

-- No square above 0 is twice a square.
abbrev pub NoDoubleSquare : Type 0
NoDoubleSquare = (p q : ℕ) → 2 * (p * p) ≡ q * q → p ≡ 0
