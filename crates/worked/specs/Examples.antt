-- Worked examples of the format, which the definitions meet by computation.
use Rattle.std.specs.Prelude.{◌≡◌, ℕ, true, List, [], ◌∷◌, ◌++◌, pos, Ok, Err, codes, Result}
use Rattle.std.specs.Int.{w32, w64}
use Rattle.std.proofs.Common.{of_z}
use Rattle.ttlv.specs.Numbers.{be, of_be, padding}
use Rattle.ttlv.specs.Kinds.{extended, truth_bytes, value_item}
use Rattle.fields.specs.declared.ttlv_type.TtlvType.{TtlvType}
use Rattle.fields.specs.declared.ttlv_type.TtlvType.TheVariants.{Integer, LongInteger, BigInteger, Enumeration, Boolean, TextString, ByteString, DateTime}
use Rattle.fields.specs.Types.{type_byte}
use Rattle.values.specs.declared.refusals.ValueRefusal.TheVariants.{InvalidTtlvValueLength, InvalidTtlvValue}
use Rattle.values.specs.Legal.{bytes_judged}
use Rattle.reading.specs.Refusals.{fault_number}
use Rattle.reading.specs.declared.refusals.ValueFault.{ValueFault}
use Rattle.reading.specs.Stages.{into_scratch, told_length, answered}
use Rattle.reading.specs.Reads.{printed}
use Rattle.faults.specs.declared.fault.Fault.{Fault}
use Rattle.faults.specs.Faults.{item_number}
use Rattle.items.specs.declared.item.Item.TheVariants as item
use Rattle.items.specs.Items.{item_read, header_read}

-- A value of the standard's own examples, with the bytes of its item under the tag 420020.
pub record Example : Type 0 where
  pub kind : TtlvType
  pub value : List ℕ
  pub bytes : List ℕ

-- The table: Integer 8, Long Integer 123456789000000000, Big Integer 1234567890000000000000000000, Enumeration 255, Boolean True,
-- Text String "Hello World", Byte String 01 02 03, and the Date-Time 2008-03-14 11:56:40 GMT.
abbrev pub standard : List Example
standard =
    record {
      kind = Integer;
      value = be 4 (of_z w32 (pos 8));
      bytes = 0x42 ∷ 0x00 ∷ 0x20 ∷ 0x02 ∷ 0x00 ∷ 0x00 ∷ 0x00 ∷ 0x04 ∷ 0x00 ∷ 0x00 ∷ 0x00 ∷ 0x08 ∷ 0x00 ∷ 0x00 ∷ 0x00 ∷ 0x00 ∷ [];
    }
    ∷ record {
      kind = LongInteger;
      value = be 8 (of_z w64 (pos 123456789000000000));
      bytes = 0x42 ∷ 0x00 ∷ 0x20 ∷ 0x03 ∷ 0x00 ∷ 0x00 ∷ 0x00 ∷ 0x08 ∷ 0x01 ∷ 0xB6 ∷ 0x9B ∷ 0x4B ∷ 0xA5 ∷ 0x74 ∷ 0x92 ∷ 0x00 ∷ [];
    }
    ∷ record {
      kind = BigInteger;
      value = extended (be 12 1234567890000000000000000000);
      bytes = 0x42 ∷ 0x00 ∷ 0x20 ∷ 0x04 ∷ 0x00 ∷ 0x00 ∷ 0x00 ∷ 0x10 ∷ 0x00 ∷ 0x00 ∷ 0x00 ∷ 0x00 ∷ 0x03 ∷ 0xFD ∷ 0x35 ∷ 0xEB ∷ 0x6B ∷ 0xC2 ∷ 0xDF ∷ 0x46 ∷ 0x18 ∷ 0x08 ∷ 0x00 ∷ 0x00 ∷ [];
    }
    ∷ record {
      kind = Enumeration;
      value = be 4 255;
      bytes = 0x42 ∷ 0x00 ∷ 0x20 ∷ 0x05 ∷ 0x00 ∷ 0x00 ∷ 0x00 ∷ 0x04 ∷ 0x00 ∷ 0x00 ∷ 0x00 ∷ 0xFF ∷ 0x00 ∷ 0x00 ∷ 0x00 ∷ 0x00 ∷ [];
    }
    ∷ record {
      kind = Boolean;
      value = truth_bytes true;
      bytes = 0x42 ∷ 0x00 ∷ 0x20 ∷ 0x06 ∷ 0x00 ∷ 0x00 ∷ 0x00 ∷ 0x08 ∷ 0x00 ∷ 0x00 ∷ 0x00 ∷ 0x00 ∷ 0x00 ∷ 0x00 ∷ 0x00 ∷ 0x01 ∷ [];
    }
    ∷ record {
      kind = TextString;
      value = codes "Hello World";
      bytes = 0x42 ∷ 0x00 ∷ 0x20 ∷ 0x07 ∷ 0x00 ∷ 0x00 ∷ 0x00 ∷ 0x0B ∷ 0x48 ∷ 0x65 ∷ 0x6C ∷ 0x6C ∷ 0x6F ∷ 0x20 ∷ 0x57 ∷ 0x6F ∷ 0x72 ∷ 0x6C ∷ 0x64 ∷ 0x00 ∷ 0x00 ∷ 0x00 ∷ 0x00 ∷ 0x00 ∷ [];
    }
    ∷ record {
      kind = ByteString;
      value = 0x01 ∷ 0x02 ∷ 0x03 ∷ [];
      bytes = 0x42 ∷ 0x00 ∷ 0x20 ∷ 0x08 ∷ 0x00 ∷ 0x00 ∷ 0x00 ∷ 0x03 ∷ 0x01 ∷ 0x02 ∷ 0x03 ∷ 0x00 ∷ 0x00 ∷ 0x00 ∷ 0x00 ∷ 0x00 ∷ [];
    }
    ∷ record {
      kind = DateTime;
      value = be 8 (of_z w64 (pos 1205495800));
      bytes = 0x42 ∷ 0x00 ∷ 0x20 ∷ 0x09 ∷ 0x00 ∷ 0x00 ∷ 0x00 ∷ 0x08 ∷ 0x00 ∷ 0x00 ∷ 0x00 ∷ 0x00 ∷ 0x47 ∷ 0xDA ∷ 0x67 ∷ 0xF8 ∷ [];
    }
    ∷ []

-- Each is written as its bytes, and its bytes are read as it.
abbrev pub Stands : Example → Type 0
Stands e =
    (be 3 0x420020 ++ (type_byte e.kind ∷ value_item e.value) ≡ e.bytes)
    × (item_read record { 0 = 0 } e.bytes ≡ Ok (item.Value record { 0 = 0x420020 } e.kind (printed (type_byte e.kind) e.value)))

abbrev pub AllStand : List Example → Type 0
AllStand [] = Unit {0}
AllStand (e ∷ more) = Stands e × AllStand more

-- The number of an answer to a header: 0 where it was read.
abbrev pub header_number : {X : Type 0} → Result X Fault → ℕ
header_number (Ok _) = 0
header_number (Err f) = item_number f.cause

-- The number of an answer to a value that was read into a scratch of eight bytes.
abbrev pub value_number : {X : Type 0} → Result X ValueFault → ℕ
value_number (Ok _) = 0
value_number (Err f) = fault_number f

abbrev pub number_read : TtlvType → List ℕ → ℕ
number_read kind bytes = value_number (answered (told_length bytes) kind 12 (told_length bytes) (into_scratch (type_byte kind) 8 bytes))

abbrev pub header_of : ℕ → List ℕ
header_of type = 0x42 ∷ 0x00 ∷ 0x0D ∷ type ∷ []

pub record WorkedExamples : Type 0 where
  -- the standard's own examples
  pub all_stand : AllStand standard
  -- lengths 0, 1, 8 and 10 have padding 0, 7, 0 and 6
  pub padding_0 : padding 0 ≡ 0
  pub padding_1 : padding 1 ≡ 7
  pub padding_8 : padding 8 ≡ 0
  pub padding_10 : padding 10 ≡ 6
  -- every number is written with its highest byte first
  pub tag_bytes : be 3 0x42005C ≡ 0x42 ∷ 0x00 ∷ 0x5C ∷ []
  pub length_bytes : be 4 40 ≡ 0 ∷ 0 ∷ 0 ∷ 40 ∷ []
  pub length_read : of_be (0 ∷ 0 ∷ 1 ∷ 2 ∷ []) ≡ 258
  -- a Big Integer 80 is written FFFFFFFF FFFFFF80, 0080 as 00000000 00000080, and an empty one as nothing
  pub big_80 : extended (0x80 ∷ []) ≡ 0xFF ∷ 0xFF ∷ 0xFF ∷ 0xFF ∷ 0xFF ∷ 0xFF ∷ 0xFF ∷ 0x80 ∷ []
  pub big_0080 : extended (0x00 ∷ 0x80 ∷ []) ≡ 0 ∷ 0 ∷ 0 ∷ 0 ∷ 0 ∷ 0 ∷ 0 ∷ 0x80 ∷ []
  pub big_none : extended [] ≡ []
  -- Boolean 2 gives 5, Boolean of length 4 gives 4, made or read
  pub boolean_2 : number_read Boolean (be 4 8 ++ be 8 2) ≡ 5
  pub boolean_4 : number_read Boolean (be 4 4 ++ be 8 0) ≡ 4
  pub made_2 : bytes_judged Boolean (be 8 2) ≡ Err (InvalidTtlvValue Boolean)
  pub made_4 : bytes_judged Boolean (be 4 1) ≡ Err (InvalidTtlvValueLength 8 4 Boolean)
  -- types 0x00 and 0x0B are none (3), 0x0A is not handled (2)
  pub type_0 : header_number (header_read record { 0 = 0 } (header_of 0x00)) ≡ 3
  pub type_1 : header_number (header_read record { 0 = 0 } (header_of 0x01)) ≡ 0
  pub type_9 : header_number (header_read record { 0 = 0 } (header_of 0x09)) ≡ 0
  pub type_10 : header_number (header_read record { 0 = 0 } (header_of 0x0A)) ≡ 2
  pub type_11 : header_number (header_read record { 0 = 0 } (header_of 0x0B)) ≡ 3
