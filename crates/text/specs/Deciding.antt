-- Deciding byte by byte whether bytes are text.
use Rattle.std.specs.Prelude.{ℕ, Bool, true, false, cond, ◌&&◌, List, fold, ◌==◌, nat_le, nat_lt}
use Rattle.text.specs.declared.utf8.Utf8.{Utf8}
use Rattle.text.specs.declared.utf8.Utf8.TheVariants.{Start, Second, Tail1, Tail2, Bad}

abbrev pub within : ℕ → ℕ → ℕ → Bool
within low high b = nat_le low b && nat_le b high

-- Whether a second byte may follow the first: the range depends on the first, so that no overlong form (after E0 and F0), no surrogate (after ED)
-- and nothing above 0x10FFFF (after F4) comes through.
abbrev pub second : ℕ → ℕ → Bool
second first b =
    cond (first == 0xE0) (within 0xA0 0xBF b) (cond (first == 0xED) (within 0x80 0x9F b)
    (cond (first == 0xF0) (within 0x90 0xBF b) (cond (first == 0xF4) (within 0x80 0x8F b) (within 0x80 0xBF b))))

-- What is still to come of a character after its second byte.
abbrev pub after_second_byte : ℕ → Utf8
after_second_byte first = cond (nat_lt first 0xE0) Start (cond (nat_lt first 0xF0) Tail1 Tail2)

-- One byte more.
abbrev pub stepped : Utf8 → ℕ → Utf8
stepped Start b = cond (nat_le b 0x7F) Start (cond (within 0xC2 0xF4 b) (Second b) Bad)
stepped (Second first) b = cond (second first b) (after_second_byte first) Bad
stepped Tail1 b = cond (within 0x80 0xBF b) Start Bad
stepped Tail2 b = cond (within 0x80 0xBF b) Tail1 Bad
stepped Bad b = Bad

-- Several bytes more.
abbrev pub run : Utf8 → List ℕ → Utf8
run s bytes = fold stepped s bytes

-- Whether what was seen is whole.
abbrev pub whole : Utf8 → Bool
whole Start = true
whole (Second first) = false
whole Tail1 = false
whole Tail2 = false
whole Bad = false

-- Whether bytes are text, as it is decided: nothing but whole characters was seen in the end.
unfoldable pub textual : List ℕ → Bool
textual bytes = whole (run Start bytes)
