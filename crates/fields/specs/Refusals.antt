-- The refusals of fields: the number of each case.
use Rattle.std.specs.Prelude.{ℕ, List, ◌++◌, codes, decimal}
use Rattle.fields.specs.Types.{field_name}
use Rattle.fields.specs.declared.refusals.TypeRefusal.{TypeRefusal}
use Rattle.fields.specs.declared.refusals.TypeRefusal.TheVariants.{Unsupported, Invalid}
use Rattle.fields.specs.declared.refusals.AdvanceRefusal.{AdvanceRefusal}
use Rattle.fields.specs.declared.refusals.AdvanceRefusal.TheVariants.{UnexpectedTtlvField}
use Rattle.fields.specs.declared.refusals.IgnoreRefusal.{IgnoreRefusal}
use Rattle.fields.specs.declared.refusals.IgnoreRefusal.TheVariants.{InvalidStateMachineOperation}

-- A type byte: 2, a type that is not handled; 3, none.
abbrev pub type_number : TypeRefusal → ℕ
type_number (Unsupported byte) = 2
type_number (Invalid byte) = 3

-- Advancing: 9, another field than the one expected.
abbrev pub advance_number : AdvanceRefusal → ℕ
advance_number (UnexpectedTtlvField expected actual) = 9

-- Ignoring a tag: 10, while reading.
abbrev pub ignore_number : IgnoreRefusal → ℕ
ignore_number InvalidStateMachineOperation = 10

-- What each refusal says to people.
abbrev pub type_text : TypeRefusal → List ℕ
type_text (Unsupported byte) = codes "refused 2: type byte " ++ (decimal byte ++ codes " is not handled")
type_text (Invalid byte) = codes "refused 3: type byte " ++ (decimal byte ++ codes " is no type")

abbrev pub advance_text : AdvanceRefusal → List ℕ
advance_text (UnexpectedTtlvField expected actual) =
    codes "refused 9: " ++ (field_name actual ++ (codes " came where " ++ (field_name expected ++ codes " was expected")))

abbrev pub ignore_text : IgnoreRefusal → List ℕ
ignore_text InvalidStateMachineOperation = codes "refused 10: no tag is ignored while reading"
