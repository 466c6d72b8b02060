-- What was written is read back.
use Rattle.std.proofs.Common.{◌≡◌, ℕ, ◌+◌, ◌-◌, ◌^◌, ◌<◌, ◌≤◌, min, true, ◌⊎◌, List, leb, Ok, ◌++◌, length, take, drop, replicate, sym, refl, ap, ◌∙◌, inl, inr, arith}
use Rattle.std.proofs.lemmas.List.{length-append, take_at, append_assoc, append-nil, take_all, drop_all, take-append-drop, drop-append-le, length-take-le}
use Rattle.std.proofs.lemmas.Bool.{le-leb, cases_lt}
use Rattle.ttlv.specs.Numbers.{padding}
use Rattle.ttlv.specs.Kinds.{Legal, value_item, fits}
use Rattle.ttlv.proofs.Reading.{of_be_be}
use Rattle.fields.specs.declared.ttlv_type.TtlvType.{TtlvType}
use Rattle.values.specs.Legal.{good}
use Rattle.values.proofs.Judging.{decides_good}
use Rattle.values.proofs.Putting.{length_value_item}
use Rattle.reading.specs.Stages.{told_length, told_value}
use Rattle.reading.specs.Reads.{ReadBack, ReadsBackWhatIsWritten}
use Rattle.reading.specs.Parts.{ReadsLength}
use Rattle.reading.proofs.Staged.{stage_6, Lengthed, lengthed}

pub legal_good : (type : ℕ) (bytes : List ℕ) → Legal type bytes → good type bytes ≡ true
legal_good type bytes l = (decides_good type bytes).1 record { truth = l.truth; text = l.text }

pub reads_back_good : (type : ℕ) (bytes rest : List ℕ) → fits type (length bytes) ≡ true → good type bytes ≡ true → length bytes < 2 ^ 32 → ReadBack type bytes rest
reads_back_good type bytes rest fit right lt =
    let n : told_length (value_item bytes ++ rest) ≡ length bytes = of_be_be 4 (length bytes) lt in
    let v : told_value (value_item bytes ++ rest) ≡ bytes =
    ap (λ k. take k ((bytes ++ replicate (padding (length bytes)) 0) ++ rest)) n
    ∙ ap (λ l. take (length bytes) l) (append_assoc bytes (replicate (padding (length bytes)) 0) rest)
    ∙ take_at bytes (replicate (padding (length bytes)) 0 ++ rest) (length bytes) refl in
    let l = length-append (value_item bytes) rest in
    let m = length_value_item bytes in
    let p : padding (told_length (value_item bytes ++ rest)) ≡ padding (length bytes) = ap padding n in
    let enough : 4 + told_length (value_item bytes ++ rest) + padding (told_length (value_item bytes ++ rest)) ≤ length (value_item bytes ++ rest) = omega arith in
    let f : fits type (told_length (value_item bytes ++ rest)) ≡ true = ap (fits type) n ∙ fit in
    let g : good type (told_value (value_item bytes ++ rest)) ≡ true = ap (good type) v ∙ right in
    record {
      len = n;
      value = v;
      into = λ room h. stage_6 type (length (value_item bytes ++ rest)) (told_length (value_item bytes ++ rest)) (told_value (value_item bytes ++ rest)) _ enough f (le-leb _ room (omega arith)) g;
      without = stage_6 type (length (value_item bytes ++ rest)) (told_length (value_item bytes ++ rest)) (told_value (value_item bytes ++ rest)) true enough f refl g;
    }

pub reads_back : ReadsBackWhatIsWritten
reads_back type bytes rest legal lt = reads_back_good type bytes rest legal.long (legal_good type bytes legal) lt

-- The front of a scratch, once bytes were read into its first n: as many as came.
drop_front : (k n : ℕ) (xs : List ℕ) → k ≤ n → n ≤ length xs → drop k (take n xs) ++ drop n xs ≡ drop k xs
drop_front k n xs h l =
    let t : length (take n xs) ≡ n = length-take-le n xs l in
    sym (drop-append-le k (take n xs) (drop n xs) (omega arith)) ∙ ap (λ l. drop k l) (take-append-drop n xs)

scratch_at : (mid scratch : List ℕ) (n : ℕ) → n ≤ length scratch → (length mid < n) ⊎ (n ≤ length mid)
    → (take n mid ++ drop (length mid) (take n scratch)) ++ drop n scratch ≡ take (min n (length mid)) mid ++ drop (min n (length mid)) scratch
scratch_at mid scratch n l (inl h) =
    let e : min n (length mid) ≡ length mid = omega arith in
    append_assoc (take n mid) (drop (length mid) (take n scratch)) (drop n scratch)
    ∙ ap (λ t. take n mid ++ t) (drop_front (length mid) n scratch (omega arith) l)
    ∙ ap (λ t. t ++ drop (length mid) scratch) (take_all n mid (omega arith) ∙ sym (take_all (length mid) mid (omega arith)))
    ∙ ap (λ k. take k mid ++ drop k scratch) (sym e)
scratch_at mid scratch n l (inr h) =
    let e : min n (length mid) ≡ n = omega arith in
    let t : length (take n scratch) ≡ n = length-take-le n scratch l in
    ap (λ t. (take n mid ++ t) ++ drop n scratch) (drop_all (length mid) (take n scratch) (omega arith))
    ∙ ap (λ t. t ++ drop n scratch) (append-nil (take n mid)) ∙ ap (λ k. take k mid ++ drop k scratch) (sym e)

pub scratch_front : (old mid scratch part part' : List ℕ) (n k : ℕ) → mid ≡ drop 4 old → n ≤ length scratch → part ≡ take (n - 0) scratch → part' ≡ take (length part) mid ++ drop (length mid) part
    → k ≡ min n (length mid) → part' ++ drop (n - 0) scratch ≡ take k (drop 4 old) ++ drop k scratch
scratch_front old mid scratch part part' n k m l p q e =
    let z : n - 0 ≡ n = omega arith in
    let p' : part ≡ take n scratch = p ∙ ap (λ j. take j scratch) z in
    let t : length part ≡ n = ap length p' ∙ length-take-le n scratch l in
    ap (λ b. b ++ drop (n - 0) scratch) (q ∙ ap (λ j. take j mid ++ drop (length mid) part) t ∙ ap (λ b. take n mid ++ drop (length mid) b) p')
    ∙ ap (λ j. (take n mid ++ drop (length mid) (take n scratch)) ++ drop j scratch) z
    ∙ scratch_at mid scratch n l (cases_lt (length mid) n)
    ∙ ap (λ j. take j mid ++ drop j scratch) (sym e) ∙ ap (λ a. take k a ++ drop k scratch) m

-- A value of n bytes has its place at the front of a scratch.
pub record Placed (kind : TtlvType) (old mid scratch : List ℕ) (n : ℕ) : Type 0 where
  pub told : Lengthed kind old mid n
  pub holds : leb (told_length old) (length scratch) ≡ true
  pub part : length (take (n - 0) scratch) ≡ n
  pub filled : (part' : List ℕ) → part' ≡ take (length (take (n - 0) scratch)) mid ++ drop (length mid) (take (n - 0) scratch)
      → part' ++ drop (n - 0) scratch ≡ take (min n (length mid)) (drop 4 old) ++ drop (min n (length mid)) scratch

pub placed : (kind : TtlvType) (old mid scratch : List ℕ) (n : ℕ) → ReadsLength kind old mid (Ok n) → n ≤ length scratch → Placed kind old mid scratch n
placed kind old mid scratch n r h =
    let l = lengthed kind old mid n r in
    let z : n - 0 ≡ n = omega arith in
    record {
      told = l;
      holds = le-leb (told_length old) (length scratch) (omega (arith, l.told));
      part = ap (λ j. length (take j scratch)) z ∙ length-take-le n scratch h;
      filled = λ part' e. scratch_front old mid scratch (take (n - 0) scratch) part' n (min n (length mid)) l.left h refl e refl;
    }
