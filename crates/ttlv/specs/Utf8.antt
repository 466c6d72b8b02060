-- Text as RFC 3629 has it: characters in a row, each by its code point.
use Rattle.std.specs.Prelude.{◌≡◌, ℕ, ◌+◌, ◌/◌, ◌%◌, ◌<◌, ◌≤◌, cond, ◌⊎◌, List, [], ◌∷◌, ◌++◌, nat_lt}

-- A code point that a character may have: up to 0x10FFFF, and no surrogate (0xD800 to 0xDFFF).
abbrev pub Scalar : ℕ → Type 0
Scalar c = (c < 0xD800) ⊎ ((0xE000 ≤ c) × (c ≤ 0x10FFFF))

-- A byte that goes on with a character: 10, then the lowest six bits of a number.
abbrev pub more : ℕ → ℕ
more n = 0x80 + n % 64

-- The bytes of a character: as few as its code point needs, one to four.
abbrev pub written : ℕ → List ℕ
written c =
    cond (nat_lt c 0x80) (c ∷ [])
    (cond (nat_lt c 0x800) ((0xC0 + c / 64) ∷ more c ∷ [])
    (cond (nat_lt c 0x10000) ((0xE0 + c / 4096) ∷ more (c / 64) ∷ more c ∷ [])
    ((0xF0 + c / 262144) ∷ more (c / 4096) ∷ more (c / 64) ∷ more c ∷ [])))

-- Bytes that are text: a row of characters.
pub data Text : List ℕ → Type 0 where
  no_more : Text []
  one_more : (c : ℕ) (rest bytes : List ℕ) → Scalar c → written c ++ rest ≡ bytes → Text rest → Text bytes
