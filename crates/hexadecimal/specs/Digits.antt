-- Hexadecimal digits, and the two of a byte.
use Rattle.std.specs.Prelude.{ℕ, ◌+◌, ◌-◌, ◌*◌, ◌/◌, ◌%◌, cond, ◌&&◌, List, [], ◌∷◌, Some, None, Option, nat_le, nat_lt}
use Rattle.std.specs.Option.{unwrap_or}
use Rattle.streams.specs.Memories.{Spelling, spelt}

-- The value of a digit of either case: 0 to 9, A to F, a to f.
abbrev pub nibble : ℕ → Option ℕ
nibble c = cond (nat_le 48 c && nat_le c 57) (Some (c - 48)) (cond (nat_le 65 c && nat_le c 70) (Some (c - 55)) (cond (nat_le 97 c && nat_le c 102) (Some (c - 87)) None))

-- The value of a digit, and 0 for a character that is none.
abbrev pub nibble_or_0 : ℕ → ℕ
nibble_or_0 c = unwrap_or (nibble c) 0

-- The uppercase digit of a value below sixteen.
abbrev pub digit : ℕ → ℕ
digit n = cond (nat_lt n 10) (48 + n) (55 + n)

-- The byte of two digits, if both are digits.
abbrev pub both : Option ℕ → Option ℕ → Option ℕ
both None None = None
both None (Some low) = None
both (Some high) None = None
both (Some high) (Some low) = Some (high * 16 + low)

-- How a hexadecimal layer spells a byte: the digit of its high half, then that of its low half, in uppercase.
abbrev pub hex_spelling : Spelling
hex_spelling = (λ b. digit (b / 16)) ∷ (λ b. digit (b % 16)) ∷ []

-- The two digits of a byte.
abbrev pub digits : ℕ → List ℕ
digits b = digit (b / 16) ∷ digit (b % 16) ∷ []

-- Bytes as hexadecimal text.
abbrev pub hexed : List ℕ → List ℕ
hexed bytes = spelt hex_spelling bytes
