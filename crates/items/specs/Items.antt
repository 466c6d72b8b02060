-- Reading a header, and an item.
use Rattle.std.specs.Prelude.{◌≡◌, ℕ, ◌^◌, ◌<◌, cond, List, ◌∷◌, ◌++◌, length, take, drop, Some, None, Ok, Err, Option, Result, ◌==◌, nat_lt, slice_index}
use Rattle.streams.specs.declared.refusals.ReadRefusal.TheVariants.{Ended}
use Rattle.ttlv.specs.Numbers.{be, of_be}
use Rattle.fields.specs.declared.byte_offset.ByteOffset.{ByteOffset}
use Rattle.fields.specs.declared.ttlv_tag.TtlvTag.{TtlvTag}
use Rattle.fields.specs.declared.ttlv_type.TtlvType.{TtlvType}
use Rattle.fields.specs.declared.ttlv_type.TtlvType.TheVariants as type
use Rattle.fields.specs.declared.refusals.TypeRefusal.{TypeRefusal}
use Rattle.fields.specs.Types.{type_byte, type_of_byte}
use Rattle.reading.specs.declared.refusals.ValueFault.{ValueFault}
use Rattle.reading.specs.declared.refusals.ValueFault.TheVariants.{Source as ended_in}
use Rattle.reading.specs.Stages.{told_length, told_value, without_scratch, taken, answered}
use Rattle.reading.specs.Reads.{printed}
use Rattle.faults.specs.declared.item_fault.ItemFault.{ItemFault}
use Rattle.faults.specs.declared.item_fault.ItemFault.TheVariants.{Source, «Type», Value}
use Rattle.faults.specs.declared.error_location.ErrorLocation.{ErrorLocation}
use Rattle.faults.specs.declared.fault.Fault.{Fault}
use Rattle.faults.specs.Locations.{placed}
use Rattle.faults.specs.Pinned.{pinned}
use Rattle.items.specs.declared.item.Item.{Item}
use Rattle.items.specs.declared.item.Item.TheVariants as item

-- The tag and the type of an item.
abbrev pub item_tag : Item → TtlvTag
item_tag (item.Structure tag length) = tag
item_tag (item.Value tag kind shown) = tag

abbrev pub item_kind : Item → TtlvType
item_kind (item.Structure tag length) = type.Structure
item_kind (item.Value tag kind shown) = kind

-- The tag that bytes begin with.
abbrev pub tag_of : List ℕ → TtlvTag
tag_of bytes = record { 0 = of_be (take 3 bytes) }

-- The place of an item whose tag is known, and of one whose type is known too.
abbrev pub tagged : ByteOffset → TtlvTag → ErrorLocation
tagged at tag = record { offset = Some at; tag = Some tag; kind = None }

abbrev pub known_as : ByteOffset → TtlvTag → TtlvType → ErrorLocation
known_as at tag kind = record { offset = Some at; tag = Some tag; kind = Some kind }

-- A tag with the verdict on a type byte.
abbrev pub paired : TtlvTag → ErrorLocation → Result TtlvType TypeRefusal → Result (TtlvTag × TtlvType) Fault
paired tag location (Ok kind) = Ok (tag, kind)
paired tag location (Err e) = Err record { cause = «Type» e; location = location }

-- The header at the front of the bytes of an item that begins at `at`: refused with 1 in the tag, with 1 in the type, then with 2 or 3.
abbrev pub header_read : ByteOffset → List ℕ → Result (TtlvTag × TtlvType) Fault
header_read at old =
    cond (nat_lt (length old) 3) (Err record { cause = Source (Ended (length old)); location = placed at })
    (cond (nat_lt (length old) 4) (Err record { cause = Source (Ended 0); location = tagged at (tag_of old) })
    (paired (tag_of old) (tagged at (tag_of old)) (type_of_byte (slice_index old 3))))

-- Reading a header takes four bytes, or all where there are fewer.
pub record ReadsHeader (at : ByteOffset) (old new : List ℕ) (r : Result (TtlvTag × TtlvType) Fault) : Type 0 where
  pub answer : r ≡ header_read at old
  pub left : new ≡ drop 4 old

-- A header that was written is read back, whatever follows it.
abbrev pub ReadsHeadersBack : Type 0
ReadsHeadersBack = (at : ByteOffset) (tag : ℕ) (kind : TtlvType) (rest : List ℕ) → tag < 2 ^ 24
    → header_read at (be 3 tag ++ (type_byte kind ∷ rest)) ≡ Ok (record { 0 = tag }, kind)

-- What follows a header: of a structure its length, of any other type its value.
abbrev pub as_structure : TtlvTag → List ℕ → Result Item ItemFault
as_structure tag rest = cond (nat_lt (length rest) 4) (Err (Value (ended_in (Ended (length rest))))) (Ok (item.Structure tag (told_length rest)))

abbrev pub as_value : TtlvTag → TtlvType → Result (Option ℕ) ValueFault → Result Item ItemFault
as_value tag kind (Ok shown) = Ok (item.Value tag kind shown)
as_value tag kind (Err e) = Err (Value e)

abbrev pub content_read : TtlvTag → TtlvType → List ℕ → Result Item ItemFault
content_read tag kind rest =
    cond (type_byte kind == 1) (as_structure tag rest)
    (as_value tag kind (answered (printed (type_byte kind) (told_value rest)) kind (length rest) (told_length rest) (without_scratch (type_byte kind) rest)))

abbrev pub content_taken : TtlvType → List ℕ → ℕ
content_taken kind rest = cond (type_byte kind == 1) 4 (taken (length rest) (told_length rest) (without_scratch (type_byte kind) rest))

pub record ReadsContent (tag : TtlvTag) (kind : TtlvType) (old new : List ℕ) (r : Result Item ItemFault) : Type 0 where
  pub answer : r ≡ content_read tag kind old
  pub left : new ≡ drop (content_taken kind old) old

-- The item at the front of the bytes: a structure's header, or a value whole. A fault after the header knows the tag and the type.
abbrev pub after_header : ByteOffset → List ℕ → Result (TtlvTag × TtlvType) Fault → Result Item Fault
after_header at rest (Ok (tag, kind)) = pinned (content_read tag kind rest) (known_as at tag kind)
after_header at rest (Err fault) = Err fault

abbrev pub left_after : List ℕ → Result (TtlvTag × TtlvType) Fault → List ℕ
left_after rest (Ok (tag, kind)) = drop (content_taken kind rest) rest
left_after rest (Err fault) = rest

abbrev pub item_read : ByteOffset → List ℕ → Result Item Fault
item_read at old = after_header at (drop 4 old) (header_read at old)

pub record ReadsItem (at : ByteOffset) (old new : List ℕ) (r : Result Item Fault) : Type 0 where
  pub answer : r ≡ item_read at old
  pub left : new ≡ left_after (drop 4 old) (header_read at old)
