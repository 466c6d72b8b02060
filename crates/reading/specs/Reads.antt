-- What reading a value answers, and what it leaves.
use Rattle.std.specs.Prelude.{◌≡◌, ℕ, ◌^◌, ◌<◌, ◌≤◌, cond, List, ◌++◌, length, take, drop, Some, None, Option, Result, ◌==◌}
use Rattle.ttlv.specs.Numbers.{of_be}
use Rattle.ttlv.specs.Kinds.{Legal, value_item}
use Rattle.fields.specs.declared.ttlv_type.TtlvType.{TtlvType}
use Rattle.fields.specs.Types.{type_byte}
use Rattle.reading.specs.declared.refusals.ValueFault.{ValueFault}
use Rattle.reading.specs.Stages.{Stage, whole, told_length, told_value, into_scratch, without_scratch, taken, came, answered}

-- Reading stopped at a stage: the source had `old` ahead and then has `new`; the answer is `r`, with `x` for the value.
pub record Stops {X : Type 0} (s : Stage) (x : X) (kind : TtlvType) (old new : List ℕ) (r : Result X ValueFault) : Type 0 where
  pub answer : r ≡ answered x kind (length old) (told_length old) s
  pub left : new ≡ drop (taken (length old) (told_length old) s) old

-- What then stands in the scratch: the value bytes that came at its front, and what it held behind them.
abbrev pub scratched : Stage → List ℕ → List ℕ → List ℕ
scratched s old scratch = take (came (length old) (told_length old) s) (drop 4 old) ++ drop (came (length old) (told_length old) s) scratch

-- Reading a value into a scratch; the answer is its length.
pub record ReadsValue (kind : TtlvType) (old new scratch scratch' : List ℕ) (r : Result ℕ ValueFault) : Type 0 where
  pub stops : Stops (into_scratch (type_byte kind) (length scratch) old) (told_length old) kind old new r
  pub filled : scratch' ≡ scratched (into_scratch (type_byte kind) (length scratch) old) old scratch

-- What is printed of a value: an Enumeration's number.
abbrev pub printed : ℕ → List ℕ → Option ℕ
printed type bytes = cond (type == 5) (Some (of_be bytes)) None

-- Reading a value without a scratch; the answer is what is printed of it.
abbrev pub PassesValue : TtlvType → List ℕ → List ℕ → Result (Option ℕ) ValueFault → Type 0
PassesValue kind old new r = Stops (without_scratch (type_byte kind) old) (printed (type_byte kind) (told_value old)) kind old new r

-- A legal value that was written is read back, whatever follows it: the bytes tell its length and its value, and reading comes to its end.
pub record ReadBack (type : ℕ) (bytes rest : List ℕ) : Type 0 where
  pub len : told_length (value_item bytes ++ rest) ≡ length bytes
  pub value : told_value (value_item bytes ++ rest) ≡ bytes
  pub into : (room : ℕ) → length bytes ≤ room → into_scratch type room (value_item bytes ++ rest) ≡ whole
  pub without : without_scratch type (value_item bytes ++ rest) ≡ whole

abbrev pub ReadsBackWhatIsWritten : Type 0
ReadsBackWhatIsWritten = (type : ℕ) (bytes rest : List ℕ) → Legal type bytes → length bytes < 2 ^ 32 → ReadBack type bytes rest
