-- Values of more than eight bytes, and the number of an Enumeration.
use Rattle.std.proofs.Common.{◌≡◌, ℕ, ◌+◌, ◌*◌, ◌<◌, Bool, true, false, cond, not, ◌&&◌, eqb, List, ◌++◌, length, get_or, take, drop, Some, None, Ok, Err, Option, Result, sym, refl, ap, ◌∙◌, subst, arith}
use Rattle.std.proofs.lemmas.Bool.{eqb-true}
use Rattle.std.proofs.lemmas.List.{length-take-le, append-nil, drop_all}
use Rattle.ttlv.specs.Kinds.{fits}
use Rattle.ttlv.proofs.Reading.{of_be_4}
use Rattle.text.specs.declared.utf8.Utf8.{Utf8}
use Rattle.text.specs.declared.utf8.Utf8.TheVariants.{Start}
use Rattle.text.specs.Deciding.{run, whole, textual}
use Rattle.fields.specs.declared.ttlv_type.TtlvType.{TtlvType}
use Rattle.fields.specs.declared.ttlv_type.TtlvType.TheVariants.{Structure, Integer, LongInteger, BigInteger, Enumeration, Boolean, TextString, ByteString, DateTime}
use Rattle.fields.specs.Types.{type_byte}
use Rattle.values.specs.declared.refusals.ValueRefusal.{ValueRefusal}
use Rattle.values.specs.declared.refusals.ValueRefusal.TheVariants.{InvalidTtlvValueLength, InvalidTtlvValue}
use Rattle.values.specs.Legal.{good, fixed_length, bytes_judged}
use Rattle.reading.specs.Parts.{long_judged, ReadsBytes, Passed}
use Rattle.reading.specs.Reads.{printed}
use Rattle.reading.proofs.Parted.{Whole, bytes_good}

-- The four bytes of an Enumeration are the number that is printed.
pub number_is : (kind : TtlvType) (bytes : List ℕ) (n : ℕ) → kind ≡ Enumeration → fits (type_byte kind) (length bytes) ≡ true
    → n ≡ get_or bytes 0 0 * 16777216 + get_or bytes 1 0 * 65536 + get_or bytes 2 0 * 256 + get_or bytes 3 0 → Some n ≡ printed (type_byte kind) bytes
number_is kind bytes n e f v =
    let l : length bytes ≡ 4 = eqb-true (length bytes) 4 (ap (λ k. fits (type_byte k) (length bytes)) (sym e) ∙ f) in
    rw e (ap Some (v ∙ of_be_4 bytes l))

abbrev Judged : Type 0
Judged = Result (Unit {0}) ValueRefusal

by_text : (w : Bool) (v : ValueRefusal) → ◌≡◌ {A = Judged} (cond (not w) (Err v) (Ok tt)) (cond w (Ok tt) (Err v))
by_text true v = refl
by_text false v = refl

textual_is : (bytes : List ℕ) (seen : Utf8) → seen ≡ run Start bytes → whole seen ≡ textual bytes
unfolding textual
textual_is bytes seen e = ap whole e

long_good : (kind : TtlvType) (len : ℕ) (bytes : List ℕ) (seen : Utf8) → seen ≡ run Start bytes → fits (type_byte kind) len ≡ true → 8 < len
    → ◌≡◌ {A = Judged} (cond (eqb (type_byte kind) 7 && not (whole seen)) (Err (InvalidTtlvValue kind)) (Ok tt)) (cond (good (type_byte kind) bytes) (Ok tt) (Err (InvalidTtlvValue kind)))
unfolding good
long_good Structure len bytes seen e f h = refl
long_good Integer len bytes seen e f h = refl
long_good LongInteger len bytes seen e f h = refl
long_good BigInteger len bytes seen e f h = refl
long_good Enumeration len bytes seen e f h = refl
long_good Boolean len bytes seen e f h = let l = eqb-true len 8 f in absurd (omega arith)
long_good TextString len bytes seen e f h = by_text (whole seen) (InvalidTtlvValue TextString) ∙ ap (λ w. cond w (Ok tt) (Err (InvalidTtlvValue TextString))) (textual_is bytes seen e)
long_good ByteString len bytes seen e f h = refl
long_good DateTime len bytes seen e f h = refl

long_at : (kind : TtlvType) (len : ℕ) (bytes : List ℕ) (seen : Utf8) (b : Bool) → fits (type_byte kind) len ≡ b → seen ≡ run Start bytes → 8 < len
    → ◌≡◌ {A = Judged} (cond b (cond (eqb (type_byte kind) 7 && not (whole seen)) (Err (InvalidTtlvValue kind)) (Ok tt)) (Err (InvalidTtlvValueLength (fixed_length kind) len kind)))
    (cond b (cond (good (type_byte kind) bytes) (Ok tt) (Err (InvalidTtlvValue kind))) (Err (InvalidTtlvValueLength (fixed_length kind) len kind)))
long_at kind len bytes seen true f e h = long_good kind len bytes seen e f h
long_at kind len bytes seen false f e h = refl

pub long_is : (kind : TtlvType) (len : ℕ) (bytes : List ℕ) (seen : Utf8) → length bytes ≡ len → seen ≡ run Start bytes → 8 < len → long_judged kind len seen ≡ bytes_judged kind bytes
long_is kind len bytes seen l e h =
    subst (λ n. long_judged kind n seen ≡ bytes_judged kind bytes) l (long_at kind (length bytes) bytes seen (fits (type_byte kind) (length bytes)) refl e (omega arith))

printed_at : (kind : TtlvType) (len : ℕ) (bytes : List ℕ) → fits (type_byte kind) len ≡ true → 8 < len → printed (type_byte kind) bytes ≡ None
printed_at Structure len bytes f h = refl
printed_at Integer len bytes f h = refl
printed_at LongInteger len bytes f h = refl
printed_at BigInteger len bytes f h = refl
printed_at Enumeration len bytes f h = let l = eqb-true len 4 f in absurd (omega arith)
printed_at Boolean len bytes f h = refl
printed_at TextString len bytes f h = refl
printed_at ByteString len bytes f h = refl
printed_at DateTime len bytes f h = refl

-- Bytes that were judged good have a length that fits.
fits_at : (b g : Bool) (e f : ValueRefusal) → ◌≡◌ {A = Judged} (cond b (cond g (Ok tt) (Err e)) (Err f)) (Ok tt) → b ≡ true
fits_at true g e f h = refl
fits_at false g e f h = let z : ◌≡◌ {A = ℕ} 0 1 = cc in absurd (omega arith)

pub fits_judged : (kind : TtlvType) (bytes : List ℕ) → bytes_judged kind bytes ≡ Ok tt → fits (type_byte kind) (length bytes) ≡ true
fits_judged kind bytes h =
    fits_at (fits (type_byte kind) (length bytes)) (good (type_byte kind) bytes) (InvalidTtlvValue kind) (InvalidTtlvValueLength (fixed_length kind) (length bytes) kind) h

-- A long value was passed over.
pub long_good_bytes : (kind : TtlvType) (len : ℕ) (old new : List ℕ) (seen : Utf8) → Passed old new len → seen ≡ run Start (take len old) → 8 < len → Ok tt ≡ long_judged kind len seen
    → ReadsBytes (printed (type_byte kind) (take len old)) kind len old new (Ok None)
long_good_bytes kind len old new seen p e h j =
    let l : length (take len old) ≡ len = length-take-le len old p.enough in
    let q : Ok tt ≡ bytes_judged kind (take len old) = j ∙ long_is kind len (take len old) seen l e h in
    let n : printed (type_byte kind) (take len old) ≡ None = printed_at kind (length (take len old)) (take len old) (fits_judged kind (take len old) (sym q)) (omega arith) in
    subst (λ y. ReadsBytes (printed (type_byte kind) (take len old)) kind len old new (Ok y)) n
    (bytes_good (printed (type_byte kind) (take len old)) kind len old new p.enough p.left q)

-- A short value was read.
pub short_good_bytes : (kind : TtlvType) (len : ℕ) (old new buf value : List ℕ) (m : Option ℕ) → Whole kind len old new → length buf ≡ len → value ≡ take (length buf) old ++ drop (length old) buf
    → (fits (type_byte kind) (length value) ≡ true → m ≡ printed (type_byte kind) value) → ReadsBytes (printed (type_byte kind) (take len old)) kind len old new (Ok m)
short_good_bytes kind len old new buf value m w l e h =
    let v : value ≡ take len old =
    e ∙ ap (λ k. take k old ++ drop (length old) buf) l ∙ ap (λ t. take len old ++ t) (drop_all (length old) buf (omega (arith, w.enough))) ∙ append-nil (take len old) in
    let f : fits (type_byte kind) (length value) ≡ true = ap (λ b. fits (type_byte kind) (length b)) v ∙ fits_judged kind (take len old) w.judged in
    subst (λ y. ReadsBytes (printed (type_byte kind) (take len old)) kind len old new (Ok y)) (sym (h f ∙ ap (printed (type_byte kind)) v))
    (bytes_good (printed (type_byte kind) (take len old)) kind len old new w.enough w.left (sym w.judged))
