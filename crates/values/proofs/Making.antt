-- Values made of bytes.
use Rattle.std.proofs.Common.{◌≡◌, ℕ, ◌≤◌, Bool, true, false, cond, eqb, List, length, get_or, Ok, Err, refl, ap, ◌∙◌, arith, w8, Fits}
use Rattle.std.proofs.lemmas.Bool.{eqb-true}
use Rattle.std.proofs.lemmas.Bool.Decides.{nat_tests}
use Rattle.ttlv.specs.Numbers.{be, of_be}
use Rattle.ttlv.specs.Kinds.{fits, truth_bytes, extended}
use Rattle.ttlv.proofs.Reading.{of_be_8, be_of_be}
use Rattle.fields.specs.declared.ttlv_type.TtlvType.{TtlvType}
use Rattle.fields.specs.declared.ttlv_type.TtlvType.TheVariants as type
use Rattle.fields.specs.Types.{type_byte}
use Rattle.values.specs.declared.refusals.ValueRefusal.TheVariants.{InvalidTtlvValueLength, InvalidTtlvValue}
use Rattle.values.specs.Legal.{good, DecidesGood, fixed_length, bytes_judged}
use Rattle.values.specs.Any.{value_judged, as_written}

-- Two tests, both passed.
both : {X E : Type 0} (a b : Bool) (x y : X) (e f : E) → Ok y ≡ cond a (cond b (Ok x) (Err e)) (Err f) → (a ≡ true) × (b ≡ true)
both true true x y e f h = (refl, refl)
both true false x y e f h = let z : ◌≡◌ {A = ℕ} 0 1 = cc in absurd (omega arith)
both false b x y e f h = let z : ◌≡◌ {A = ℕ} 0 1 = cc in absurd (omega arith)

-- Bytes that are judged good have a fitting length, and are good.
pub judged_good : (kind : TtlvType) (bytes : List ℕ) → Ok tt ≡ bytes_judged kind bytes → (fits (type_byte kind) (length bytes) ≡ true) × (good (type_byte kind) bytes ≡ true)
judged_good kind bytes h =
    both (fits (type_byte kind) (length bytes)) (good (type_byte kind) bytes) tt tt (InvalidTtlvValue kind) (InvalidTtlvValueLength (fixed_length kind) (length bytes) kind) h

-- Eight bytes that write 0 or 1 are those of their last.
last_of_eight : (bytes : List ℕ) → length bytes ≡ 8 → of_be bytes ≤ 1 → cond (eqb (get_or bytes 7 0) 1) 1 0 ≡ of_be bytes
last_of_eight bytes l h = let e = of_be_8 bytes l in grind (arith, nat_tests)

pub truth_of : (bytes : List ℕ) → DecidesGood → ((i : ℕ) → Fits w8 (get_or bytes i 0)) → Ok tt ≡ bytes_judged type.Boolean bytes → truth_bytes (eqb (get_or bytes 7 0) 1) ≡ bytes
truth_of bytes d t h =
    let g = judged_good type.Boolean bytes h in
    let l : length bytes ≡ 8 = eqb-true (length bytes) 8 g.0 in
    ap (be 8) (last_of_eight bytes l (((d 6 bytes).0 g.1).truth refl)) ∙ be_of_be 8 bytes l (λ i. (t i).fits)

-- Bytes of any length that may be anything.
pub big_judged : (kind : TtlvType) (bytes : List ℕ) → kind ≡ type.BigInteger
    → (value_judged kind bytes ≡ Ok tt) × (type.BigInteger ≡ kind) × (extended bytes ≡ as_written kind bytes)
unfolding good
big_judged kind bytes e = rw e (refl, refl, refl)

pub bytes_string_judged : (kind : TtlvType) (bytes : List ℕ) → kind ≡ type.ByteString
    → (value_judged kind bytes ≡ Ok tt) × (type.ByteString ≡ kind) × (bytes ≡ as_written kind bytes)
unfolding good
bytes_string_judged kind bytes e = rw e (refl, refl, refl)
