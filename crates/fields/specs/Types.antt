-- The bytes and the names of types, and the names of fields.
use Rattle.std.specs.Prelude.{◌≡◌, ℕ, cond, List, Ok, Err, codes, Result, ◌==◌}
use Rattle.ttlv.specs.Types.{told, known, unsupported, invalid}
use Rattle.fields.specs.declared.field_type.FieldType.{FieldType}
use Rattle.fields.specs.declared.field_type.FieldType.TheVariants.{Tag, «Type», Length, Value, LengthAndValue, TypeAndLengthAndValue}
use Rattle.fields.specs.declared.ttlv_type.TtlvType.{TtlvType}
use Rattle.fields.specs.declared.ttlv_type.TtlvType.TheVariants.{Structure, Integer, LongInteger, BigInteger, Enumeration, Boolean, TextString, ByteString, DateTime}
use Rattle.fields.specs.declared.refusals.TypeRefusal.{TypeRefusal}
use Rattle.fields.specs.declared.refusals.TypeRefusal.TheVariants.{Unsupported, Invalid}

-- The byte of a type.
abbrev pub type_byte : TtlvType → ℕ
type_byte Structure = 1
type_byte Integer = 2
type_byte LongInteger = 3
type_byte BigInteger = 4
type_byte Enumeration = 5
type_byte Boolean = 6
type_byte TextString = 7
type_byte ByteString = 8
type_byte DateTime = 9

-- The type that a byte stands for, or its refusal.
abbrev pub type_of_byte : ℕ → Result TtlvType TypeRefusal
type_of_byte b =
    cond (b == 1) (Ok Structure) (cond (b == 2) (Ok Integer) (cond (b == 3) (Ok LongInteger) (cond (b == 4) (Ok BigInteger)
    (cond (b == 5) (Ok Enumeration) (cond (b == 6) (Ok Boolean) (cond (b == 7) (Ok TextString) (cond (b == 8) (Ok ByteString)
    (cond (b == 9) (Ok DateTime) (cond (b == 10) (Err (Unsupported b)) (Err (Invalid b)))))))))))

-- A refusal of a type byte tells the byte.
abbrev pub RefusesByte : ℕ → TypeRefusal → Type 0
RefusesByte b (Unsupported byte) = (told b ≡ unsupported) × (byte ≡ b)
RefusesByte b (Invalid byte) = (told b ≡ invalid) × (byte ≡ b)

-- The same in the words of the table: the type that has the byte, or refused with 2 exactly for 0x0A and with 3 exactly for any other that is none.
abbrev pub TypesByte : ℕ → Result TtlvType TypeRefusal → Type 0
TypesByte b (Ok t) = (told b ≡ known) × (type_byte t ≡ b)
TypesByte b (Err e) = RefusesByte b e

-- A type's name, with its byte.
abbrev pub type_name : TtlvType → List ℕ
type_name Structure = codes "Structure (0x01)"
type_name Integer = codes "Integer (0x02)"
type_name LongInteger = codes "LongInteger (0x03)"
type_name BigInteger = codes "BigInteger (0x04)"
type_name Enumeration = codes "Enumeration (0x05)"
type_name Boolean = codes "Boolean (0x06)"
type_name TextString = codes "TextString (0x07)"
type_name ByteString = codes "ByteString (0x08)"
type_name DateTime = codes "DateTime (0x09)"

-- The letter of a type in diagnostic strings: [ i l I e b t o d.
abbrev pub type_letter : TtlvType → ℕ
type_letter Structure = 91
type_letter Integer = 105
type_letter LongInteger = 108
type_letter BigInteger = 73
type_letter Enumeration = 101
type_letter Boolean = 98
type_letter TextString = 116
type_letter ByteString = 111
type_letter DateTime = 100

-- A field's name.
abbrev pub field_name : FieldType → List ℕ
field_name Tag = codes "Tag"
field_name «Type» = codes "Type"
field_name Length = codes "Length"
field_name Value = codes "Value"
field_name LengthAndValue = codes "LengthAndValue"
field_name TypeAndLengthAndValue = codes "TypeAndLengthAndValue"
