-- What a text of digit pairs spells.
use Rattle.std.specs.Prelude.{ℕ, ◌+◌, ◌*◌, List, [], ◌∷◌, Some, None, Option}
use Rattle.hexadecimal.specs.Digits.{nibble, nibble_or_0, both}

-- A byte in front of more, if there is one.
abbrev pub led : Option ℕ → List ℕ → List ℕ
led None more = []
led (Some b) more = b ∷ more

-- The bytes of the longest run of digit pairs at the front of a text.
abbrev pub spelled : List ℕ → List ℕ
spelled [] = []
spelled (a ∷ []) = []
spelled (a ∷ b ∷ text) = led (both (nibble a) (nibble b)) (spelled text)

-- The bytes that all pairs of a text spell, a character that is no digit counting as 0; a last one without a partner spells nothing.
abbrev pub paired : List ℕ → List ℕ
paired [] = []
paired (a ∷ []) = []
paired (a ∷ b ∷ text) = (nibble_or_0 a * 16 + nibble_or_0 b) ∷ paired text
