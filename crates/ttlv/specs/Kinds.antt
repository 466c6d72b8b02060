-- Which bytes a value of a type may have.
use Rattle.std.specs.Prelude.{◌≡◌, ℕ, ◌%◌, ◌^◌, ◌≤◌, Bool, true, cond, ◌||◌, List, [], ◌∷◌, ◌++◌, length, replicate, ℤ, pos, ◌-ℤ◌, ◌==◌, nat_le}
use Rattle.ttlv.specs.Numbers.{be, of_be, padding}
use Rattle.ttlv.specs.Utf8.{Text}

-- A length that a value of the type may have when it is read: 4 for an Integer and an Enumeration, 8 for a Long Integer, a Boolean and a
-- Date-Time, any for the others.
abbrev pub fits : ℕ → ℕ → Bool
fits type len = cond (type == 2 || type == 5) (len == 4) (cond (type == 3 || (type == 6 || type == 9)) (len == 8) true)

-- Value bytes that are legal as written: of a length of the type, a Big Integer's a multiple of eight; a Boolean 0 or 1; text in UTF-8.
pub record Legal (type : ℕ) (bytes : List ℕ) : Type 0 where
  pub long : fits type (length bytes) ≡ true
  pub eights : type ≡ 4 → length bytes % 8 ≡ 0
  pub truth : type ≡ 6 → of_be bytes ≤ 1
  pub text : type ≡ 7 → Text bytes

-- A Boolean's value bytes.
abbrev pub truth_bytes : Bool → List ℕ
truth_bytes b = be 8 (cond b 1 0)

-- The byte that extends a Big Integer in front: all ones if it is negative, else all zeros.
abbrev pub sign_byte : List ℕ → ℕ
sign_byte [] = 0x00
sign_byte (b ∷ bytes) = cond (nat_le 0x80 b) 0xFF 0x00

-- A Big Integer as it is written: extended in front by its sign to a multiple of eight bytes.
abbrev pub extended : List ℕ → List ℕ
extended bytes = replicate (padding (length bytes)) (sign_byte bytes) ++ bytes

-- The number that bytes write in two's complement: negative where the first has its highest bit set.
abbrev pub twos : List ℕ → ℤ
twos [] = pos 0
twos (b ∷ bytes) = cond (nat_le 0x80 b) (pos (of_be (b ∷ bytes)) -ℤ pos (256 ^ length (b ∷ bytes))) (pos (of_be (b ∷ bytes)))

-- A Big Integer that is extended writes the same number.
abbrev pub ExtensionKeepsTheNumber : Type 0
ExtensionKeepsTheNumber = (bytes : List ℕ) → twos (extended bytes) ≡ twos bytes

-- A value as it stands in an item: its length, its bytes and its padding.
abbrev pub value_item : List ℕ → List ℕ
value_item bytes = be 4 (length bytes) ++ (bytes ++ replicate (padding (length bytes)) 0)
