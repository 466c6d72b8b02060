-- The parts of a value, one after another: its length, its bytes, its padding.
use Rattle.std.specs.Prelude.{◌≡◌, ℕ, ◌<◌, ◌≤◌, cond, not, ◌&&◌, List, [], length, take, drop, Ok, Err, Result, ◌==◌, nat_lt}
use Rattle.streams.specs.declared.refusals.ReadRefusal.{ReadRefusal}
use Rattle.streams.specs.declared.refusals.ReadRefusal.TheVariants.{Ended}
use Rattle.ttlv.specs.Numbers.{of_be}
use Rattle.ttlv.specs.Kinds.{fits}
use Rattle.text.specs.declared.utf8.Utf8.{Utf8}
use Rattle.text.specs.declared.utf8.Utf8.TheVariants.{Start}
use Rattle.text.specs.Deciding.{run, whole}
use Rattle.fields.specs.declared.ttlv_type.TtlvType.{TtlvType}
use Rattle.fields.specs.Types.{type_byte}
use Rattle.values.specs.declared.refusals.ValueRefusal.{ValueRefusal}
use Rattle.values.specs.declared.refusals.ValueRefusal.TheVariants.{InvalidTtlvValueLength, InvalidTtlvValue}
use Rattle.values.specs.Legal.{fixed_length, bytes_judged}
use Rattle.reading.specs.declared.refusals.ValueFault.{ValueFault}
use Rattle.reading.specs.declared.refusals.ValueFault.TheVariants.{Source, Value}

-- n bytes passed over: all of them, or as many as the source had, which the refusal tells.
pub record Passed (old new : List ℕ) (n : ℕ) : Type 0 where
  pub enough : n ≤ length old
  pub left : new ≡ drop n old

pub record Short (old new : List ℕ) (n : ℕ) (e : ReadRefusal) : Type 0 where
  pub short : length old < n
  pub cause : e ≡ Ended (length old)
  pub left : new ≡ []

abbrev pub Passes : {X : Type 0} → List ℕ → List ℕ → ℕ → Result X ReadRefusal → Type 0
Passes old new n (Ok _) = Passed old new n
Passes old new n (Err e) = Short old new n e

-- The same, with what the bytes are as text.
abbrev pub PassesText : List ℕ → List ℕ → ℕ → Result Utf8 ReadRefusal → Type 0
PassesText old new n (Ok seen) = Passed old new n × (seen ≡ run Start (take n old))
PassesText old new n (Err e) = Short old new n e

-- The length: refused with 1, then with 4.
pub record ReadsLength (kind : TtlvType) (old new : List ℕ) (r : Result ℕ ValueFault) : Type 0 where
  pub answer : r ≡ cond (nat_lt (length old) 4) (Err (Source (Ended (length old))))
      (cond (fits (type_byte kind) (of_be (take 4 old))) (Ok (of_be (take 4 old)))
      (Err (Value (InvalidTtlvValueLength (fixed_length kind) (of_be (take 4 old)) kind))))
  pub left : new ≡ drop 4 old

-- What is made of a judgement: `x` where the bytes are good.
abbrev pub judged_as : {X : Type 0} → X → Result (Unit {0}) ValueRefusal → Result X ValueFault
judged_as x (Ok _) = Ok x
judged_as x (Err e) = Err (Value e)

-- n bytes: refused with 1, then as they are judged.
pub record ReadsBytes {X : Type 0} (x : X) (kind : TtlvType) (n : ℕ) (old new : List ℕ) (r : Result X ValueFault) : Type 0 where
  pub answer : r ≡ cond (nat_lt (length old) n) (Err (Source (Ended (length old)))) (judged_as x (bytes_judged kind (take n old)))
  pub left : new ≡ drop n old

-- More than eight bytes judged by their length and by what was seen of them as text.
abbrev pub long_judged : TtlvType → ℕ → Utf8 → Result (Unit {0}) ValueRefusal
long_judged kind len seen =
    cond (fits (type_byte kind) len) (cond (type_byte kind == 7 && not (whole seen)) (Err (InvalidTtlvValue kind)) (Ok tt))
    (Err (InvalidTtlvValueLength (fixed_length kind) len kind))
