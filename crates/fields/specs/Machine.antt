-- The state machine of fields: what it does with the next field, by its mode, by what it expects, and by whether a tag is ignored.
use Rattle.std.specs.Prelude.{Bool, true, false, Ok, Err, Result}
use Rattle.fields.specs.declared.field_type.FieldType.{FieldType}
use Rattle.fields.specs.declared.field_type.FieldType.TheVariants.{Tag, «Type», Length, Value, LengthAndValue, TypeAndLengthAndValue}
use Rattle.fields.specs.declared.state_machine.TtlvStateMachineMode.{TtlvStateMachineMode}
use Rattle.fields.specs.declared.state_machine.TtlvStateMachineMode.TheVariants.{Serializing, Deserializing}
use Rattle.fields.specs.declared.state_machine.TtlvStateMachine.{TtlvStateMachine}
use Rattle.fields.specs.declared.refusals.AdvanceRefusal.{AdvanceRefusal}
use Rattle.fields.specs.declared.refusals.AdvanceRefusal.TheVariants.{UnexpectedTtlvField}
use Rattle.fields.specs.declared.refusals.IgnoreRefusal.{IgnoreRefusal}
use Rattle.fields.specs.declared.refusals.IgnoreRefusal.TheVariants.{InvalidStateMachineOperation}

-- What a field does: the machine goes on to expect another, stays (the field is not to be written), or refuses.
pub data Move : Type 0 where
  go : FieldType → Move
  stay : Move
  refuse : Move

-- Where a tag is expected.
abbrev pub at_tag : FieldType → Move
at_tag Tag = go «Type»
at_tag «Type» = refuse
at_tag Length = refuse
at_tag Value = refuse
at_tag LengthAndValue = refuse
at_tag TypeAndLengthAndValue = refuse

-- A second tag where a type is expected: left out, when writing, if the machine was told to ignore it.
abbrev pub if_ignored : Bool → Move
if_ignored true = stay
if_ignored false = refuse

abbrev pub second_tag : TtlvStateMachineMode → Bool → Move
second_tag Serializing ignore = if_ignored ignore
second_tag Deserializing ignore = refuse

-- Type, length and value as one, when writing.
abbrev pub whole_item : TtlvStateMachineMode → Move
whole_item Serializing = go Tag
whole_item Deserializing = refuse

-- Length and value as one, when reading.
abbrev pub length_and_value : TtlvStateMachineMode → Move
length_and_value Serializing = refuse
length_and_value Deserializing = go Tag

-- Where a type is expected.
abbrev pub at_type : TtlvStateMachineMode → Bool → FieldType → Move
at_type mode ignore Tag = second_tag mode ignore
at_type mode ignore «Type» = go Length
at_type mode ignore Length = refuse
at_type mode ignore Value = refuse
at_type mode ignore LengthAndValue = refuse
at_type mode ignore TypeAndLengthAndValue = whole_item mode

-- Where a length is expected.
abbrev pub at_length : TtlvStateMachineMode → FieldType → Move
at_length mode Tag = refuse
at_length mode «Type» = refuse
at_length mode Length = go Value
at_length mode Value = refuse
at_length mode LengthAndValue = length_and_value mode
at_length mode TypeAndLengthAndValue = refuse

-- Where a value is expected; the first item of a structure stands in its place.
abbrev pub at_value : FieldType → Move
at_value Tag = go «Type»
at_value «Type» = refuse
at_value Length = refuse
at_value Value = go Tag
at_value LengthAndValue = refuse
at_value TypeAndLengthAndValue = refuse

-- The table.
abbrev pub move : TtlvStateMachineMode → Bool → FieldType → FieldType → Move
move mode ignore Tag next = at_tag next
move mode ignore «Type» next = at_type mode ignore next
move mode ignore Length next = at_length mode next
move mode ignore Value next = at_value next
move mode ignore LengthAndValue next = refuse
move mode ignore TypeAndLengthAndValue next = refuse

-- A machine that is new, or reset.
abbrev pub fresh : TtlvStateMachineMode → TtlvStateMachine
fresh mode = record { mode = mode; expected_next_field_type = Tag; ignore_next_tag = false }

abbrev pub moved : TtlvStateMachine → FieldType → Move → Result Bool AdvanceRefusal × TtlvStateMachine
moved s next (go field) = (Ok true, record { mode = s.mode; expected_next_field_type = field; ignore_next_tag = s.ignore_next_tag })
moved s next stay = (Ok false, record { mode = s.mode; expected_next_field_type = s.expected_next_field_type; ignore_next_tag = false })
moved s next refuse = (Err (UnexpectedTtlvField s.expected_next_field_type next), s)

-- The answer to the next field, and the machine then; a refusal (9) tells the field expected and the one that came, and changes nothing.
abbrev pub advanced : TtlvStateMachine → FieldType → Result Bool AdvanceRefusal × TtlvStateMachine
advanced s next = moved s next (move s.mode s.ignore_next_tag s.expected_next_field_type next)

abbrev pub ignoring_in : TtlvStateMachineMode → TtlvStateMachine → Result (Unit {0}) IgnoreRefusal × TtlvStateMachine
ignoring_in Serializing s = (Ok tt, record { mode = s.mode; expected_next_field_type = s.expected_next_field_type; ignore_next_tag = true })
ignoring_in Deserializing s = (Err InvalidStateMachineOperation, s)

-- The answer when the next tag is to be ignored, and the machine then; refused (10) when reading, and then nothing changes.
abbrev pub ignoring : TtlvStateMachine → Result (Unit {0}) IgnoreRefusal × TtlvStateMachine
ignoring s = ignoring_in s.mode s
