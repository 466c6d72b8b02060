-- Numbers as bytes, the highest first, and padding.
use Rattle.std.specs.Prelude.{ℕ, zero, suc, ◌+◌, ◌-◌, ◌*◌, ◌/◌, ◌%◌, ◌^◌, cond, List, [], ◌∷◌, length, ◌==◌}

-- The k bytes of a number (its lowest k, where it has more).
abbrev pub be : ℕ → ℕ → List ℕ
be zero n = []
be (suc zero) n = n % 256 ∷ []
be (suc (suc k)) n = (n / 256 ^ suc k % 256) ∷ be (suc k) n

-- The number that bytes write.
abbrev pub of_be : List ℕ → ℕ
of_be [] = 0
of_be (b ∷ bytes) = b * 256 ^ length bytes + of_be bytes

-- How many bytes follow a value of n bytes, up to a multiple of eight.
abbrev pub padding : ℕ → ℕ
padding n = cond (n % 8 == 0) 0 (8 - n % 8)
