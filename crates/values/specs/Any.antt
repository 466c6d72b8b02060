-- A value of any kind: its type, its bytes as written, and how it is made of bytes.
use Rattle.std.specs.Prelude.{◌≡◌, ℕ, List, Ok, Err, Result}
use Rattle.std.specs.Int.{w32, w64}
use Rattle.std.proofs.Common.{of_z}
use Rattle.ttlv.specs.Numbers.{be}
use Rattle.ttlv.specs.Kinds.{truth_bytes, extended}
use Rattle.fields.specs.declared.ttlv_type.TtlvType.{TtlvType}
use Rattle.fields.specs.declared.ttlv_type.TtlvType.TheVariants as type
use Rattle.values.specs.declared.refusals.ValueRefusal.{ValueRefusal}
use Rattle.values.specs.declared.refusals.ValueRefusal.TheVariants.{InvalidTtlvValue}
use Rattle.values.specs.Legal.{bytes_judged}
use Rattle.values.specs.declared.ttlv_value.TtlvValue.{TtlvValue}
use Rattle.values.specs.declared.ttlv_value.TtlvValue.TheVariants.{Integer, LongInteger, BigInteger, Enumeration, Boolean, TextString, ByteString, DateTime}

-- The type of a value.
abbrev pub any_kind : TtlvValue → TtlvType
any_kind (Integer v) = type.Integer
any_kind (LongInteger v) = type.LongInteger
any_kind (BigInteger v) = type.BigInteger
any_kind (Enumeration v) = type.Enumeration
any_kind (Boolean v) = type.Boolean
any_kind (TextString v) = type.TextString
any_kind (ByteString v) = type.ByteString
any_kind (DateTime v) = type.DateTime

-- The bytes of a value, as written.
abbrev pub any_value : TtlvValue → List ℕ
any_value (Integer v) = be 4 (of_z w32 v.0)
any_value (LongInteger v) = be 8 (of_z w64 v.0)
any_value (BigInteger v) = extended v.0.now
any_value (Enumeration v) = be 4 v.0
any_value (Boolean v) = truth_bytes v.0
any_value (TextString v) = v.0.now
any_value (ByteString v) = v.0.now
any_value (DateTime v) = be 8 (of_z w64 v.0)

-- Bytes of a kind as they are written: a Big Integer is extended by its sign.
abbrev pub as_written : TtlvType → List ℕ → List ℕ
as_written type.Structure bytes = bytes
as_written type.Integer bytes = bytes
as_written type.LongInteger bytes = bytes
as_written type.BigInteger bytes = extended bytes
as_written type.Enumeration bytes = bytes
as_written type.Boolean bytes = bytes
as_written type.TextString bytes = bytes
as_written type.ByteString bytes = bytes
as_written type.DateTime bytes = bytes

-- Bytes are judged for a value; a Structure is none (5).
abbrev pub value_judged : TtlvType → List ℕ → Result (Unit {0}) ValueRefusal
value_judged type.Structure bytes = Err (InvalidTtlvValue type.Structure)
value_judged type.Integer bytes = bytes_judged type.Integer bytes
value_judged type.LongInteger bytes = bytes_judged type.LongInteger bytes
value_judged type.BigInteger bytes = bytes_judged type.BigInteger bytes
value_judged type.Enumeration bytes = bytes_judged type.Enumeration bytes
value_judged type.Boolean bytes = bytes_judged type.Boolean bytes
value_judged type.TextString bytes = bytes_judged type.TextString bytes
value_judged type.ByteString bytes = bytes_judged type.ByteString bytes
value_judged type.DateTime bytes = bytes_judged type.DateTime bytes

-- A value of a kind is made of bytes, if they are judged good.
abbrev pub MakesAny : TtlvType → List ℕ → Result TtlvValue ValueRefusal → Type 0
MakesAny kind bytes (Ok v) = (value_judged kind bytes ≡ Ok tt) × (any_kind v ≡ kind) × (any_value v ≡ as_written kind bytes)
MakesAny kind bytes (Err e) = value_judged kind bytes ≡ Err e
