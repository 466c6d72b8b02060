-- Reading a value of fixed length.
use Rattle.std.proofs.Common.{◌≡◌, ℕ, ◌+◌, ◌≤◌, Bool, true, false, cond, not, eqb, ltb, leb, List, length, take, drop, Ok, Err, sym, refl, ap, ◌∙◌, arith}
use Rattle.std.proofs.lemmas.List.{length-drop, length-take-le, take_at}
use Rattle.std.proofs.lemmas.Bool.{ltb-false, eqb-true, le-leb}
use Rattle.ttlv.specs.Numbers.{padding}
use Rattle.ttlv.specs.Kinds.{fits}
use Rattle.fields.specs.declared.ttlv_type.TtlvType.{TtlvType}
use Rattle.fields.specs.Types.{type_byte}
use Rattle.values.specs.Legal.{good}
use Rattle.reading.specs.declared.refusals.ValueFault.{ValueFault}
use Rattle.reading.specs.Stages.{Stage, cut_in_length, wrong_length, no_scratch, cut_in_value, bad_value, cut_in_padding, whole, stage, told_length, told_value, into_scratch, without_scratch, answered, taken}
use Rattle.reading.specs.Reads.{Stops, ReadsValue, scratched}

-- Stages apart.
abbrev is_whole : Stage → ℕ
is_whole cut_in_length = 0
is_whole wrong_length = 0
is_whole no_scratch = 0
is_whole cut_in_value = 0
is_whole bad_value = 0
is_whole cut_in_padding = 0
is_whole whole = 1

-- What is known where the value is whole.
pub record Complete (type left len : ℕ) (value : List ℕ) : Type 0 where
  pub fit : fits type len ≡ true
  pub enough : 4 + len + padding len ≤ left
  pub good_value : good type value ≡ true

complete_at : (type left len : ℕ) (v : List ℕ) (a f h c g d : Bool) → fits type len ≡ f → good type v ≡ g → ltb left (4 + len + padding len) ≡ d
    → cond a cut_in_length (cond (not f) wrong_length (cond (not h) no_scratch (cond c cut_in_value (cond (not g) bad_value (cond d cut_in_padding whole))))) ≡ whole → Complete type left len v
complete_at type left len v true f h c g d p q r e = let z : ◌≡◌ {A = ℕ} 0 1 = ap is_whole e in absurd (omega arith)
complete_at type left len v false false h c g d p q r e = let z : ◌≡◌ {A = ℕ} 0 1 = ap is_whole e in absurd (omega arith)
complete_at type left len v false true false c g d p q r e = let z : ◌≡◌ {A = ℕ} 0 1 = ap is_whole e in absurd (omega arith)
complete_at type left len v false true true true g d p q r e = let z : ◌≡◌ {A = ℕ} 0 1 = ap is_whole e in absurd (omega arith)
complete_at type left len v false true true false false d p q r e = let z : ◌≡◌ {A = ℕ} 0 1 = ap is_whole e in absurd (omega arith)
complete_at type left len v false true true false true true p q r e = let z : ◌≡◌ {A = ℕ} 0 1 = ap is_whole e in absurd (omega arith)
complete_at type left len v false true true false true false p q r e = record { fit = p; enough = ltb-false left (4 + len + padding len) r; good_value = q }

pub complete : (type left len : ℕ) (v : List ℕ) (h : Bool) → stage type left len v h ≡ whole → Complete type left len v
unfolding stage
complete type left len v h e = complete_at type left len v (ltb left 4) (fits type len) h (ltb left (4 + len)) (good type v) (ltb left (4 + len + padding len)) refl refl refl e

-- A scratch of eight bytes is as good as any.
eight_at : (type left len fixed : ℕ) (v : List ℕ) (f : Bool) → fits type len ≡ f → eqb len fixed ≡ f → fixed ≤ 8
    → cond (ltb left 4) cut_in_length (cond (not f) wrong_length (cond (not (leb len 8)) no_scratch (cond (ltb left (4 + len)) cut_in_value (cond (not (good type v)) bad_value (cond (ltb left (4 + len + padding len)) cut_in_padding whole)))))
    ≡ cond (ltb left 4) cut_in_length (cond (not f) wrong_length (cond (not true) no_scratch (cond (ltb left (4 + len)) cut_in_value (cond (not (good type v)) bad_value (cond (ltb left (4 + len + padding len)) cut_in_padding whole)))))
eight_at type left len fixed v true p q h =
    let e : len ≡ fixed = eqb-true len fixed q in
    let l : leb len 8 ≡ true = le-leb len 8 (omega arith) in
    ap (λ b. cond (ltb left 4) cut_in_length (cond (not b) no_scratch (cond (ltb left (4 + len)) cut_in_value (cond (not (good type v)) bad_value (cond (ltb left (4 + len + padding len)) cut_in_padding whole))))) l
eight_at type left len fixed v false p q h = refl

pub eight : (type left len fixed : ℕ) (v : List ℕ) → ((n : ℕ) → fits type n ≡ eqb n fixed) → fixed ≤ 8 → stage type left len v (leb len 8) ≡ stage type left len v true
unfolding stage
eight type left len fixed v only h = eight_at type left len fixed v (fits type len) refl (sym (only len)) h

-- A refusal is the same whatever the answer would be.
refused_as : {X Y : Type 0} (x : X) (y : Y) (kind : TtlvType) (left len : ℕ) (s : Stage) (e : ValueFault) → Err e ≡ answered x kind left len s → Err e ≡ answered y kind left len s
refused_as x y kind left len cut_in_length e h = ap Err (cc)
refused_as x y kind left len wrong_length e h = ap Err (cc)
refused_as x y kind left len no_scratch e h = ap Err (cc)
refused_as x y kind left len cut_in_value e h = ap Err (cc)
refused_as x y kind left len bad_value e h = ap Err (cc)
refused_as x y kind left len cut_in_padding e h = ap Err (cc)
refused_as x y kind left len whole e h = let z : ◌≡◌ {A = ℕ} 0 1 = cc in absurd (omega arith)

-- An answer says that the value is whole.
answered_whole : {X : Type 0} (x y : X) (kind : TtlvType) (left len : ℕ) (s : Stage) → Ok y ≡ answered x kind left len s → s ≡ whole
answered_whole x y kind left len cut_in_length h = let z : ◌≡◌ {A = ℕ} 0 1 = cc in absurd (omega arith)
answered_whole x y kind left len wrong_length h = let z : ◌≡◌ {A = ℕ} 0 1 = cc in absurd (omega arith)
answered_whole x y kind left len no_scratch h = let z : ◌≡◌ {A = ℕ} 0 1 = cc in absurd (omega arith)
answered_whole x y kind left len cut_in_value h = let z : ◌≡◌ {A = ℕ} 0 1 = cc in absurd (omega arith)
answered_whole x y kind left len bad_value h = let z : ◌≡◌ {A = ℕ} 0 1 = cc in absurd (omega arith)
answered_whole x y kind left len cut_in_padding h = let z : ◌≡◌ {A = ℕ} 0 1 = cc in absurd (omega arith)
answered_whole x y kind left len whole h = refl

pub fixed_refused : {X : Type 0} (x : X) (kind typed : TtlvType) (old new scratch scratch' : List ℕ) (fixed : ℕ) (e : ValueFault) → kind ≡ typed → ((n : ℕ) → fits (type_byte typed) n ≡ eqb n fixed) → fixed ≤ 8
    → length scratch ≡ 8 → ReadsValue kind old new scratch scratch' (Err e) → Stops (without_scratch (type_byte typed) old) x typed old new (Err e)
fixed_refused x kind typed old new scratch scratch' fixed e k only h l r =
    let s : into_scratch (type_byte kind) (length scratch) old ≡ without_scratch (type_byte typed) old =
    ap (λ j. into_scratch (type_byte kind) j old) l ∙ ap (λ t. into_scratch (type_byte t) 8 old) k ∙ eight (type_byte typed) (length old) (told_length old) fixed (told_value old) only h in
    record {
      answer = refused_as (told_length old) x typed (length old) (told_length old) (without_scratch (type_byte typed) old) e
          (r.stops.answer ∙ ap (λ t. answered (told_length old) kind (length old) (told_length old) t) s ∙ ap (λ t. answered (told_length old) t (length old) (told_length old) (without_scratch (type_byte typed) old)) k);
      left = r.stops.left ∙ ap (λ t. drop (taken (length old) (told_length old) t) old) s;
    }

pub fixed_whole : {X : Type 0} (value : List ℕ → X) (x : X) (kind typed : TtlvType) (old new scratch scratch' : List ℕ) (fixed n : ℕ) → kind ≡ typed → ((m : ℕ) → fits (type_byte typed) m ≡ eqb m fixed) → fixed ≤ 8
    → length scratch ≡ 8 → ReadsValue kind old new scratch scratch' (Ok n) → x ≡ value (take fixed scratch') → Stops (without_scratch (type_byte typed) old) (value (told_value old)) typed old new (Ok x)
fixed_whole value x kind typed old new scratch scratch' fixed n k only h l r v =
    let s : into_scratch (type_byte kind) (length scratch) old ≡ without_scratch (type_byte typed) old =
    ap (λ j. into_scratch (type_byte kind) j old) l ∙ ap (λ t. into_scratch (type_byte t) 8 old) k ∙ eight (type_byte typed) (length old) (told_length old) fixed (told_value old) only h in
    let w : into_scratch (type_byte kind) (length scratch) old ≡ whole = answered_whole (told_length old) n kind (length old) (told_length old) (into_scratch (type_byte kind) (length scratch) old) r.stops.answer in
    let c = complete (type_byte typed) (length old) (told_length old) (told_value old) true (sym s ∙ w) in
    let f : told_length old ≡ fixed = eqb-true (told_length old) fixed (sym (only (told_length old)) ∙ c.fit) in
    let d = length-drop 4 old in
    let m : length (told_value old) ≡ fixed = length-take-le (told_length old) (drop 4 old) (omega (arith, c.enough)) ∙ f in
    let t : take fixed scratch' ≡ told_value old =
    ap (λ b. take fixed b) (r.filled ∙ ap (λ u. scratched u old scratch) w) ∙ take_at (told_value old) (drop (told_length old) scratch) fixed m in
    record {
      answer = ap Ok (v ∙ ap value t) ∙ sym (ap (λ u. answered (value (told_value old)) typed (length old) (told_length old) u) (sym s ∙ w));
      left = r.stops.left ∙ ap (λ u. drop (taken (length old) (told_length old) u) old) s;
    }
