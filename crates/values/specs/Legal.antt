-- Which bytes are a value of a kind, and why others are refused.
use Rattle.std.specs.Prelude.{◌≡◌, ℕ, ◌≤◌, Bool, true, cond, List, length, Ok, Err, Decides, Result, ◌==◌, nat_le}
use Rattle.ttlv.specs.Numbers.{of_be}
use Rattle.ttlv.specs.Utf8.{Text}
use Rattle.ttlv.specs.Kinds.{fits}
use Rattle.text.specs.Deciding.{textual}
use Rattle.fields.specs.declared.ttlv_type.TtlvType.{TtlvType}
use Rattle.fields.specs.declared.ttlv_type.TtlvType.TheVariants.{Structure, Integer, LongInteger, BigInteger, Enumeration, Boolean, TextString, ByteString, DateTime}
use Rattle.fields.specs.Types.{type_byte}
use Rattle.values.specs.declared.refusals.ValueRefusal.{ValueRefusal}
use Rattle.values.specs.declared.refusals.ValueRefusal.TheVariants.{InvalidTtlvValueLength, InvalidTtlvValue}

-- Whether bytes of a fitting length are a value of the type: a Boolean is 0 or 1, a Text String is text, the others may be anything.
unfoldable pub good : ℕ → List ℕ → Bool
good type bytes = cond (type == 6) (nat_le (of_be bytes) 1) (cond (type == 7) (textual bytes) true)

-- The same in the words of the format.
pub record Good (type : ℕ) (bytes : List ℕ) : Type 0 where
  pub truth : type ≡ 6 → of_be bytes ≤ 1
  pub text : type ≡ 7 → Text bytes

abbrev pub DecidesGood : Type 0
DecidesGood = (type : ℕ) (bytes : List ℕ) → Decides (good type bytes) (Good type bytes)

-- The length of every value of a kind; 0 for the kinds whose values have any.
abbrev pub fixed_length : TtlvType → ℕ
fixed_length Structure = 0
fixed_length Integer = 4
fixed_length LongInteger = 8
fixed_length BigInteger = 0
fixed_length Enumeration = 4
fixed_length Boolean = 8
fixed_length TextString = 0
fixed_length ByteString = 0
fixed_length DateTime = 8

-- A length is judged: refused with 4 if no value of the kind has it.
abbrev pub length_judged : TtlvType → ℕ → Result (Unit {0}) ValueRefusal
length_judged kind len = cond (fits (type_byte kind) len) (Ok tt) (Err (InvalidTtlvValueLength (fixed_length kind) len kind))

-- Bytes are judged: refused with 4 for their length, then with 5 if they are not good.
abbrev pub bytes_judged : TtlvType → List ℕ → Result (Unit {0}) ValueRefusal
bytes_judged kind bytes =
    cond (fits (type_byte kind) (length bytes)) (cond (good (type_byte kind) bytes) (Ok tt) (Err (InvalidTtlvValue kind)))
    (Err (InvalidTtlvValueLength (fixed_length kind) (length bytes) kind))

-- A value is made of bytes: of those that are judged good, and of no others.
abbrev pub Makes : {X : Type 0} → (X → List ℕ) → TtlvType → List ℕ → Result X ValueRefusal → Type 0
Makes value kind bytes (Ok v) = (bytes_judged kind bytes ≡ Ok tt) × (value v ≡ bytes)
Makes value kind bytes (Err e) = bytes_judged kind bytes ≡ Err e

-- A value of fixed length is made of bytes: the one that they write.
abbrev pub MakesSpelt : {X : Type 0} → (X → List ℕ) → (List ℕ → X) → TtlvType → List ℕ → Result X ValueRefusal → Type 0
MakesSpelt value spelt kind bytes (Ok v) = (bytes_judged kind bytes ≡ Ok tt) × (value v ≡ bytes) × (v ≡ spelt bytes)
MakesSpelt value spelt kind bytes (Err e) = bytes_judged kind bytes ≡ Err e
