-- How far the reading of a value comes.
use Rattle.std.specs.Prelude.{ℕ, ◌+◌, ◌-◌, Bool, true, cond, not, List, length, take, drop, Ok, Err, Result, nat_le, nat_lt}
use Rattle.streams.specs.declared.refusals.ReadRefusal.TheVariants.{Ended}
use Rattle.ttlv.specs.Numbers.{of_be, padding}
use Rattle.ttlv.specs.Kinds.{fits}
use Rattle.fields.specs.declared.ttlv_type.TtlvType.{TtlvType}
use Rattle.values.specs.declared.refusals.ValueRefusal.TheVariants.{InvalidTtlvValueLength, InvalidTtlvValue}
use Rattle.values.specs.Legal.{good, fixed_length}
use Rattle.reading.specs.declared.refusals.ValueFault.{ValueFault}
use Rattle.reading.specs.declared.refusals.ValueFault.TheVariants.{Source, Value, ScratchTooShort}

-- Where reading stops: in one of its parts, at one of its refusals, or with the value whole.
pub data Stage : Type 0 where
  cut_in_length : Stage
  wrong_length : Stage
  no_scratch : Stage
  cut_in_value : Stage
  bad_value : Stage
  cut_in_padding : Stage
  whole : Stage

-- The order of the refusals, for a value of a type: `left` bytes are ahead, they tell the length `len` and the bytes `value`, and `holds`
-- says whether there is a place for them.
unfoldable pub stage : (type left len : ℕ) → List ℕ → (holds : Bool) → Stage
stage type left len value holds =
    cond (nat_lt left 4) cut_in_length (
    cond (not (fits type len)) wrong_length (
    cond (not holds) no_scratch (
    cond (nat_lt left (4 + len)) cut_in_value (
    cond (not (good type value)) bad_value (
    cond (nat_lt left (4 + len + padding len)) cut_in_padding whole)))))

-- The length and the value that the bytes ahead tell.
abbrev pub told_length : List ℕ → ℕ
told_length ahead = of_be (take 4 ahead)

abbrev pub told_value : List ℕ → List ℕ
told_value ahead = take (told_length ahead) (drop 4 ahead)

-- Reading into a scratch of so many bytes, and without one.
abbrev pub into_scratch : (type room : ℕ) → List ℕ → Stage
into_scratch type room ahead = stage type (length ahead) (told_length ahead) (told_value ahead) (nat_le (told_length ahead) room)

abbrev pub without_scratch : (type : ℕ) → List ℕ → Stage
without_scratch type ahead = stage type (length ahead) (told_length ahead) (told_value ahead) true

-- How many bytes are then taken.
abbrev pub taken : (left len : ℕ) → Stage → ℕ
taken left len cut_in_length = left
taken left len wrong_length = 4
taken left len no_scratch = 4
taken left len cut_in_value = left
taken left len bad_value = 4 + len
taken left len cut_in_padding = left
taken left len whole = 4 + len + padding len

-- How many of them are the value's.
abbrev pub came : (left len : ℕ) → Stage → ℕ
came left len cut_in_length = 0
came left len wrong_length = 0
came left len no_scratch = 0
came left len cut_in_value = left - 4
came left len bad_value = len
came left len cut_in_padding = len
came left len whole = len

-- The answer: `x` where the value is whole, else the fault. Where the source ended, it tells how many bytes of that part came.
abbrev pub answered : {X : Type 0} → X → TtlvType → (left len : ℕ) → Stage → Result X ValueFault
answered x kind left len cut_in_length = Err (Source (Ended left))
answered x kind left len wrong_length = Err (Value (InvalidTtlvValueLength (fixed_length kind) len kind))
answered x kind left len no_scratch = Err (ScratchTooShort len)
answered x kind left len cut_in_value = Err (Source (Ended (left - 4)))
answered x kind left len bad_value = Err (Value (InvalidTtlvValue kind))
answered x kind left len cut_in_padding = Err (Source (Ended (left - 4 - len)))
answered x kind left len whole = Ok x
