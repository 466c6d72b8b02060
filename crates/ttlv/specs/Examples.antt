-- Worked examples of the format, which the definitions meet by computation.
use Rattle.std.specs.Prelude.{◌≡◌, [], ◌∷◌}
use Rattle.ttlv.specs.Numbers.{be, of_be, padding}
use Rattle.ttlv.specs.Types.{told, known, unsupported, invalid}

pub record WorkedExamples : Type 0 where
  -- lengths 0, 1, 8 and 10 have padding 0, 7, 0 and 6
  pub padding_0 : padding 0 ≡ 0
  pub padding_1 : padding 1 ≡ 7
  pub padding_8 : padding 8 ≡ 0
  pub padding_10 : padding 10 ≡ 6
  -- every number is written with its highest byte first
  pub tag_bytes : be 3 0x42005C ≡ 0x42 ∷ 0x00 ∷ 0x5C ∷ []
  pub length_bytes : be 4 40 ≡ 0 ∷ 0 ∷ 0 ∷ 40 ∷ []
  pub length_read : of_be (0 ∷ 0 ∷ 1 ∷ 2 ∷ []) ≡ 258
  -- types 0x00 and 0x0B are none, 0x0A is not handled
  pub type_0 : told 0x00 ≡ invalid
  pub type_1 : told 0x01 ≡ known
  pub type_9 : told 0x09 ≡ known
  pub type_10 : told 0x0A ≡ unsupported
  pub type_11 : told 0x0B ≡ invalid
