-- Which bytes are a value.
use Rattle.std.proofs.Common.{◌≡◌, ℕ, ◌+◌, Bool, true, false, cond, eqb, leb, List, length, Ok, Err, Decides, sym, refl, ap, ◌∙◌, arith}
use Rattle.std.proofs.lemmas.Bool.{leb-true, eqb-true, eq-eqb, cond-true, cond-false}
use Rattle.std.proofs.lemmas.Bool.Decides.{nat_tests}
use Rattle.ttlv.specs.Utf8.{Text}
use Rattle.ttlv.specs.Numbers.{of_be}
use Rattle.ttlv.specs.Kinds.{fits, Legal}
use Rattle.fields.specs.declared.ttlv_type.TtlvType.{TtlvType}
use Rattle.fields.specs.declared.ttlv_type.TtlvType.TheVariants.{Structure, Integer, LongInteger, BigInteger, Enumeration, Boolean, TextString, ByteString, DateTime}
use Rattle.fields.specs.Types.{type_byte}
use Rattle.text.specs.Deciding.{textual}
use Rattle.text.proofs.Texts.{decides_text}
use Rattle.values.specs.declared.refusals.ValueRefusal.{ValueRefusal}
use Rattle.values.specs.declared.refusals.ValueRefusal.TheVariants.{InvalidTtlvValueLength, InvalidTtlvValue}
use Rattle.values.specs.Legal.{good, Good, DecidesGood, fixed_length, length_judged, bytes_judged}

textual_decides : (bytes : List ℕ) → Decides (textual bytes) (Text bytes)
unfolding textual
textual_decides bytes = decides_text bytes (textual bytes) refl

sound : (type : ℕ) (bytes : List ℕ) → good type bytes ≡ true → Good type bytes
unfolding good
sound type bytes h = record { truth = λ e. leb-true (of_be bytes) 1 (rw e at h); text = λ e. (textual_decides bytes).0 (rw e at h) }

complete : (type : ℕ) (bytes : List ℕ) → Good type bytes → good type bytes ≡ true
unfolding good
complete type bytes g = let t = g.truth in let u = λ (e : type ≡ 7). (textual_decides bytes).1 (g.text e) in grind (arith, nat_tests)

pub decides_good : DecidesGood
decides_good type bytes = (sound type bytes, complete type bytes)

-- A test that was passed, and one that was not.
pub passed : {X E : Type 0} (b : Bool) (x : X) (e : E) (y : X) → Ok y ≡ cond b (Ok x) (Err e) → b ≡ true
passed true x e y h = refl
passed false x e y h = let z : ◌≡◌ {A = ℕ} 0 1 = cc in absurd (omega arith)

pub failed : {X E : Type 0} (b : Bool) (x : X) (e f : E) → Err f ≡ cond b (Ok x) (Err e) → (b ≡ false) × (f ≡ e)
failed true x e f h = let z : ◌≡◌ {A = ℕ} 0 1 = cc in absurd (omega arith)
failed false x e f h = (refl, cc)

pub fits_from : (kind : TtlvType) (len : ℕ) → Ok tt ≡ length_judged kind len → fits (type_byte kind) len ≡ true
fits_from kind len h = passed (fits (type_byte kind) len) tt (InvalidTtlvValueLength (fixed_length kind) len kind) tt h

pub judged_length : (kind : TtlvType) (bytes : List ℕ) (e : ValueRefusal) → Err e ≡ length_judged kind (length bytes) → Err e ≡ bytes_judged kind bytes
judged_length kind bytes e h =
    let f = failed (fits (type_byte kind) (length bytes)) tt (InvalidTtlvValueLength (fixed_length kind) (length bytes) kind) e h in
    ap Err f.1 ∙ sym (cond-false _ _ _ f.0)

pub judged_by : (kind : TtlvType) (bytes : List ℕ) (b : Bool) → fits (type_byte kind) (length bytes) ≡ true → b ≡ good (type_byte kind) bytes
    → cond b (Ok tt) (Err (InvalidTtlvValue kind)) ≡ bytes_judged kind bytes
judged_by kind bytes b h e = ap (λ x. cond x (Ok tt) (Err (InvalidTtlvValue kind))) e ∙ sym (cond-true _ _ _ h)

-- What is looked at, by kind.
pub good_truth : (kind : TtlvType) (bytes : List ℕ) (r : Bool) → kind ≡ Boolean → fits (type_byte kind) (length bytes) ≡ true
    → (length bytes ≡ 8 → r ≡ leb (of_be bytes) 1) → r ≡ good (type_byte kind) bytes
unfolding good
good_truth kind bytes r e f h = rw e (h (eqb-true (length bytes) 8 (ap (λ k. fits (type_byte k) (length bytes)) (sym e) ∙ f)))

pub good_text : (kind : TtlvType) (bytes : List ℕ) (r : Bool) → kind ≡ TextString → r ≡ textual bytes → r ≡ good (type_byte kind) bytes
unfolding good
good_text kind bytes r e h = rw e h

pub good_rest : (kind : TtlvType) (bytes : List ℕ) → (kind ≡ Boolean → ⊥) → (kind ≡ TextString → ⊥) → true ≡ good (type_byte kind) bytes
unfolding good
good_rest Structure bytes a b = refl
good_rest Integer bytes a b = refl
good_rest LongInteger bytes a b = refl
good_rest BigInteger bytes a b = refl
good_rest Enumeration bytes a b = refl
good_rest Boolean bytes a b = absurd (a refl)
good_rest TextString bytes a b = absurd (b refl)
good_rest ByteString bytes a b = refl
good_rest DateTime bytes a b = refl

-- A length that a kind of fixed length has.
pub fixed_from : (kind typed : TtlvType) (n fixed : ℕ) → kind ≡ typed → ((m : ℕ) → fits (type_byte typed) m ≡ eqb m fixed) → Ok tt ≡ length_judged kind n → n ≡ fixed
fixed_from kind typed n fixed e only h = eqb-true n fixed (sym (only n) ∙ ap (λ k. fits (type_byte k) n) (sym e) ∙ fits_from kind n h)

-- Bytes of a fixed length are all good.
pub judged_all : (kind typed : TtlvType) (bytes : List ℕ) → kind ≡ typed → ((bs : List ℕ) → good (type_byte typed) bs ≡ true) → Ok tt ≡ length_judged kind (length bytes)
    → bytes_judged typed bytes ≡ Ok tt
judged_all kind typed bytes e all h =
    let f : fits (type_byte typed) (length bytes) ≡ true = ap (λ k. fits (type_byte k) (length bytes)) (sym e) ∙ fits_from kind (length bytes) h in
    sym (judged_by typed bytes true f (sym (all bytes)))

-- A Big Integer may have any length.
not_big : (type fixed : ℕ) → ((m : ℕ) → fits type m ≡ eqb m fixed) → type ≡ 4 → ⊥
not_big type fixed only e = let h : true ≡ eqb (fixed + 1) fixed = ap (λ t. fits t (fixed + 1)) (sym e) ∙ only (fixed + 1) in grind (arith, nat_tests)

-- Bytes of a fixed length that are all good are all legal.
pub legal_all : (type fixed : ℕ) (bytes : List ℕ) → ((m : ℕ) → fits type m ≡ eqb m fixed) → ((bs : List ℕ) → good type bs ≡ true) → length bytes ≡ fixed → Legal type bytes
legal_all type fixed bytes only all e =
    let g = sound type bytes (all bytes) in
    record { long = only (length bytes) ∙ eq-eqb (length bytes) fixed e; eights = λ q. absurd (not_big type fixed only q); truth = g.truth; text = g.text }
