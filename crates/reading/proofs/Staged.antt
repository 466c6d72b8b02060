-- The stages of reading a value, from what its parts answer.
use Rattle.std.proofs.Common.{◌≡◌, ℕ, ◌+◌, ◌-◌, ◌<◌, ◌≤◌, min, Bool, true, false, cond, not, ltb, leb, List, ◌++◌, length, take, drop, Ok, Err, Result, sym, refl, ap, ◌∙◌, subst, arith}
use Rattle.std.proofs.lemmas.List.{length-drop, drop-drop, drop_all, length-take-le}
use Rattle.std.proofs.lemmas.Bool.{lt-ltb, le-ltb, ltb-true, ltb-false, cond-true, cond-false}
use Rattle.streams.specs.declared.refusals.ReadRefusal.{ReadRefusal}
use Rattle.streams.specs.declared.refusals.ReadRefusal.TheVariants.{Ended}
use Rattle.ttlv.specs.Numbers.{padding}
use Rattle.ttlv.specs.Kinds.{fits}
use Rattle.fields.specs.declared.ttlv_type.TtlvType.{TtlvType}
use Rattle.fields.specs.Types.{type_byte}
use Rattle.values.specs.declared.refusals.ValueRefusal.{ValueRefusal}
use Rattle.values.specs.declared.refusals.ValueRefusal.TheVariants.{InvalidTtlvValueLength, InvalidTtlvValue}
use Rattle.values.specs.Legal.{good, fixed_length, bytes_judged}
use Rattle.reading.specs.declared.refusals.ValueFault.{ValueFault}
use Rattle.reading.specs.declared.refusals.ValueFault.TheVariants.{Source, Value, ScratchTooShort}
use Rattle.reading.specs.Parts.{ReadsLength, ReadsBytes, judged_as, Passed, Short}
use Rattle.reading.specs.Stages.{Stage, cut_in_length, wrong_length, no_scratch, cut_in_value, bad_value, cut_in_padding, whole, stage, told_length, told_value, taken, came, answered}
use Rattle.reading.specs.Reads.{Stops, ReadsValue}
use Rattle.reading.proofs.Parted.{Whole}

-- Each stage, by what holds at it.
stage_0 : (type left len : ℕ) (v : List ℕ) (h : Bool) → left < 4 → stage type left len v h ≡ cut_in_length
unfolding stage
stage_0 type left len v h a = cond-true _ _ _ (lt-ltb left 4 a)

stage_1 : (type left len : ℕ) (v : List ℕ) (h : Bool) → 4 ≤ left → fits type len ≡ false → stage type left len v h ≡ wrong_length
unfolding stage
stage_1 type left len v h a f = cond-false _ _ _ (le-ltb left 4 a) ∙ cond-true _ _ _ (ap not f)

pub stage_2 : (type left len : ℕ) (v : List ℕ) (h : Bool) → 4 ≤ left → fits type len ≡ true → h ≡ false → stage type left len v h ≡ no_scratch
unfolding stage
stage_2 type left len v h a f b = cond-false _ _ _ (le-ltb left 4 a) ∙ cond-false _ _ _ (ap not f) ∙ cond-true _ _ _ (ap not b)

stage_3 : (type left len : ℕ) (v : List ℕ) (h : Bool) → 4 ≤ left → fits type len ≡ true → h ≡ true → left < 4 + len → stage type left len v h ≡ cut_in_value
unfolding stage
stage_3 type left len v h a f b c =
    cond-false _ _ _ (le-ltb left 4 a) ∙ cond-false _ _ _ (ap not f) ∙ cond-false _ _ _ (ap not b) ∙ cond-true _ _ _ (lt-ltb left (4 + len) c)

stage_4 : (type left len : ℕ) (v : List ℕ) (h : Bool) → 4 + len ≤ left → fits type len ≡ true → h ≡ true → good type v ≡ false → stage type left len v h ≡ bad_value
unfolding stage
stage_4 type left len v h c f b g =
    cond-false _ _ _ (le-ltb left 4 (omega arith)) ∙ cond-false _ _ _ (ap not f) ∙ cond-false _ _ _ (ap not b) ∙ cond-false _ _ _ (le-ltb left (4 + len) c) ∙ cond-true _ _ _ (ap not g)

stage_5 : (type left len : ℕ) (v : List ℕ) (h : Bool) → 4 + len ≤ left → fits type len ≡ true → h ≡ true → good type v ≡ true → left < 4 + len + padding len
    → stage type left len v h ≡ cut_in_padding
unfolding stage
stage_5 type left len v h c f b g d =
    cond-false _ _ _ (le-ltb left 4 (omega arith)) ∙ cond-false _ _ _ (ap not f) ∙ cond-false _ _ _ (ap not b) ∙ cond-false _ _ _ (le-ltb left (4 + len) c)
    ∙ cond-false _ _ _ (ap not g) ∙ cond-true _ _ _ (lt-ltb left (4 + len + padding len) d)

pub stage_6 : (type left len : ℕ) (v : List ℕ) (h : Bool) → 4 + len + padding len ≤ left → fits type len ≡ true → h ≡ true → good type v ≡ true → stage type left len v h ≡ whole
unfolding stage
stage_6 type left len v h d f b g =
    cond-false _ _ _ (le-ltb left 4 (omega arith)) ∙ cond-false _ _ _ (ap not f) ∙ cond-false _ _ _ (ap not b) ∙ cond-false _ _ _ (le-ltb left (4 + len) (omega arith))
    ∙ cond-false _ _ _ (ap not g) ∙ cond-false _ _ _ (le-ltb left (4 + len + padding len) d)

-- Where reading stops, over the bytes ahead.
abbrev pub at_stage : TtlvType → List ℕ → Bool → Stage
at_stage kind old holds = stage (type_byte kind) (length old) (told_length old) (told_value old) holds

-- It stops at a stage, and so many value bytes came.
pub record Stopped {X : Type 0} (s : Stage) (x : X) (kind : TtlvType) (old new : List ℕ) (r : Result X ValueFault) (k : ℕ) : Type 0 where
  pub stops : Stops s x kind old new r
  pub value : came (length old) (told_length old) s ≡ k

stopped : {X : Type 0} (s t : Stage) (x : X) (kind : TtlvType) (old new : List ℕ) (r : Result X ValueFault) (k : ℕ) → s ≡ t
    → r ≡ answered x kind (length old) (told_length old) t → new ≡ drop (taken (length old) (told_length old) t) old → came (length old) (told_length old) t ≡ k → Stopped s x kind old new r k
stopped s t x kind old new r k e a l v = subst (λ u. Stopped u x kind old new r k) (sym e) record { stops = record { answer = a; left = l }; value = v }

-- In the length.
length_at : {X : Type 0} (x : X) (kind : TtlvType) (old new : List ℕ) (e : ValueFault) (holds b f : Bool) → ltb (length old) 4 ≡ b → fits (type_byte kind) (told_length old) ≡ f → new ≡ drop 4 old
    → ◌≡◌ {A = Result ℕ ValueFault} (Err e) (cond b (Err (Source (Ended (length old)))) (cond f (Ok (told_length old)) (Err (Value (InvalidTtlvValueLength (fixed_length kind) (told_length old) kind)))))
    → Stopped (at_stage kind old holds) x kind old new (Err e) 0
length_at x kind old new e holds true f p q l h =
    let short : length old < 4 = ltb-true (length old) 4 p in
    let c : e ≡ Source (Ended (length old)) = cc in
    stopped _ cut_in_length x kind old new (Err e) 0 (stage_0 (type_byte kind) (length old) (told_length old) (told_value old) holds short)
    (ap Err c) (l ∙ drop_all 4 old (omega arith) ∙ sym (drop_all (length old) old (omega arith))) refl
length_at x kind old new e holds false true p q l h = let z : ◌≡◌ {A = ℕ} 0 1 = cc in absurd (omega arith)
length_at x kind old new e holds false false p q l h =
    let c : e ≡ Value (InvalidTtlvValueLength (fixed_length kind) (told_length old) kind) = cc in
    stopped _ wrong_length x kind old new (Err e) 0 (stage_1 (type_byte kind) (length old) (told_length old) (told_value old) holds (ltb-false (length old) 4 p) q) (ap Err c) l refl

pub length_refused : {X : Type 0} (x : X) (kind : TtlvType) (old new : List ℕ) (e : ValueFault) (holds : Bool) → ReadsLength kind old new (Err e) → Stopped (at_stage kind old holds) x kind old new (Err e) 0
length_refused x kind old new e holds r = length_at x kind old new e holds (ltb (length old) 4) (fits (type_byte kind) (told_length old)) refl refl r.left r.answer

-- The length was read.
pub record Lengthed (kind : TtlvType) (old mid : List ℕ) (n : ℕ) : Type 0 where
  pub enough : 4 ≤ length old
  pub told : n ≡ told_length old
  pub fit : fits (type_byte kind) (told_length old) ≡ true
  pub left : mid ≡ drop 4 old

lengthed_at : (kind : TtlvType) (old mid : List ℕ) (n : ℕ) (b f : Bool) → ltb (length old) 4 ≡ b → fits (type_byte kind) (told_length old) ≡ f → mid ≡ drop 4 old
    → ◌≡◌ {A = Result ℕ ValueFault} (Ok n) (cond b (Err (Source (Ended (length old)))) (cond f (Ok (told_length old)) (Err (Value (InvalidTtlvValueLength (fixed_length kind) (told_length old) kind)))))
    → Lengthed kind old mid n
lengthed_at kind old mid n true f p q l h = let z : ◌≡◌ {A = ℕ} 0 1 = cc in absurd (omega arith)
lengthed_at kind old mid n false true p q l h = record { enough = ltb-false (length old) 4 p; told = cc; fit = q; left = l }
lengthed_at kind old mid n false false p q l h = let z : ◌≡◌ {A = ℕ} 0 1 = cc in absurd (omega arith)

pub lengthed : (kind : TtlvType) (old mid : List ℕ) (n : ℕ) → ReadsLength kind old mid (Ok n) → Lengthed kind old mid n
lengthed kind old mid n r = lengthed_at kind old mid n (ltb (length old) 4) (fits (type_byte kind) (told_length old)) refl refl r.left r.answer

-- No scratch for it.
pub no_place : {X : Type 0} (x : X) (kind : TtlvType) (old new : List ℕ) (n : ℕ) (holds : Bool) → Lengthed kind old new n → holds ≡ false
    → Stopped (at_stage kind old holds) x kind old new (Err (ScratchTooShort n)) 0
no_place x kind old new n holds l h =
    stopped _ no_scratch x kind old new (Err (ScratchTooShort n)) 0 (stage_2 (type_byte kind) (length old) (told_length old) (told_value old) holds l.enough l.fit h)
    (ap (λ m. Err (ScratchTooShort m)) l.told) l.left refl

left_then : (kind : TtlvType) (old mid : List ℕ) (n : ℕ) → Lengthed kind old mid n → length mid ≡ length old - 4
left_then kind old mid n l = ap length l.left ∙ length-drop 4 old

pub value_then : (kind : TtlvType) (old mid : List ℕ) (n : ℕ) → Lengthed kind old mid n → take n mid ≡ told_value old
value_then kind old mid n l = ap (λ k. take k mid) l.told ∙ ap (λ a. take (told_length old) a) l.left

drop_then : (kind : TtlvType) (old mid new : List ℕ) (n k : ℕ) → Lengthed kind old mid n → new ≡ drop k mid → new ≡ drop (4 + k) old
drop_then kind old mid new n k l e = e ∙ ap (λ a. drop k a) l.left ∙ drop-drop k 4 old

-- Bytes judged, by what was found.
judged_split : (kind : TtlvType) (bytes : List ℕ) (g : Bool) → fits (type_byte kind) (length bytes) ≡ true → good (type_byte kind) bytes ≡ g
    → bytes_judged kind bytes ≡ cond g (Ok tt) (Err (InvalidTtlvValue kind))
judged_split kind bytes g f e = cond-true _ _ _ f ∙ ap (λ b. cond b (Ok tt) (Err (InvalidTtlvValue kind))) e

-- In the value.
value_at : {X Y : Type 0} (x : X) (y : Y) (kind : TtlvType) (old mid new : List ℕ) (n : ℕ) (e : ValueFault) (holds b g : Bool) → Lengthed kind old mid n → holds ≡ true
    → ltb (length mid) n ≡ b → good (type_byte kind) (take n mid) ≡ g → new ≡ drop n mid
    → Err e ≡ cond b (Err (Source (Ended (length mid)))) (judged_as y (bytes_judged kind (take n mid)))
    → Stopped (at_stage kind old holds) x kind old new (Err e) (min n (length mid))
value_at x y kind old mid new n e holds true g l h p q d a =
    let short : length mid < n = ltb-true (length mid) n p in
    let m = left_then kind old mid n l in
    let t = l.told in
    let c : e ≡ Source (Ended (length mid)) = cc in
    let four = l.enough in
    stopped _ cut_in_value x kind old new (Err e) (min n (length mid))
    (stage_3 (type_byte kind) (length old) (told_length old) (told_value old) holds l.enough l.fit h (omega arith))
    (ap Err c ∙ ap (λ k. Err (Source (Ended k))) m) (d ∙ drop_all n mid (omega arith) ∙ sym (drop_all (length old) old (omega arith))) (omega arith)
value_at x y kind old mid new n e holds false true l h p q d a =
    let enough : n ≤ length mid = ltb-false (length mid) n p in
    let f : fits (type_byte kind) (length (take n mid)) ≡ true = ap (fits (type_byte kind)) (length-take-le n mid enough ∙ l.told) ∙ l.fit in
    let j = a ∙ ap (judged_as y) (judged_split kind (take n mid) true f q) in
    let z : ◌≡◌ {A = ℕ} 0 1 = cc in absurd (omega arith)
value_at x y kind old mid new n e holds false false l h p q d a =
    let enough : n ≤ length mid = ltb-false (length mid) n p in
    let m = left_then kind old mid n l in
    let t = l.told in
    let f : fits (type_byte kind) (length (take n mid)) ≡ true = ap (fits (type_byte kind)) (length-take-le n mid enough ∙ l.told) ∙ l.fit in
    let j = a ∙ ap (judged_as y) (judged_split kind (take n mid) false f q) in
    let c : e ≡ Value (InvalidTtlvValue kind) = cc in
    stopped _ bad_value x kind old new (Err e) (min n (length mid))
    (stage_4 (type_byte kind) (length old) (told_length old) (told_value old) holds (omega (arith, l.enough)) l.fit h (ap (good (type_byte kind)) (sym (value_then kind old mid n l)) ∙ q))
    (ap Err c) (drop_then kind old mid new n n l d ∙ ap (λ k. drop (4 + k) old) t) (omega arith)

pub value_refused : {X Y : Type 0} (x : X) (y : Y) (kind : TtlvType) (old mid new : List ℕ) (n : ℕ) (e : ValueFault) (holds : Bool) → Lengthed kind old mid n → holds ≡ true
    → ReadsBytes y kind n mid new (Err e) → Stopped (at_stage kind old holds) x kind old new (Err e) (min n (length mid))
value_refused x y kind old mid new n e holds l h r =
    value_at x y kind old mid new n e holds (ltb (length mid) n) (good (type_byte kind) (take n mid)) l h refl refl r.left r.answer

-- The value was read: it is good.
good_at : (kind : TtlvType) (bytes : List ℕ) (b g : Bool) (v : ValueRefusal) → fits (type_byte kind) (length bytes) ≡ b → good (type_byte kind) bytes ≡ g
    → ◌≡◌ {A = Result (Unit {0}) ValueRefusal} (cond b (cond g (Ok tt) (Err (InvalidTtlvValue kind))) (Err v)) (Ok tt) → g ≡ true
good_at kind bytes true true v p q h = refl
good_at kind bytes true false v p q h = let z : ◌≡◌ {A = ℕ} 0 1 = cc in absurd (omega arith)
good_at kind bytes false g v p q h = let z : ◌≡◌ {A = ℕ} 0 1 = cc in absurd (omega arith)

pub good_judged : (kind : TtlvType) (bytes : List ℕ) → bytes_judged kind bytes ≡ Ok tt → good (type_byte kind) bytes ≡ true
good_judged kind bytes h =
    good_at kind bytes (fits (type_byte kind) (length bytes)) (good (type_byte kind) bytes) (InvalidTtlvValueLength (fixed_length kind) (length bytes) kind) refl refl h

-- In the padding.
pub padding_refused : {X : Type 0} (x : X) (kind : TtlvType) (old mid mid' new : List ℕ) (n : ℕ) (e : ReadRefusal) (holds : Bool) → Lengthed kind old mid n → holds ≡ true
    → Whole kind n mid mid' → Short mid' new (padding n) e → Stopped (at_stage kind old holds) x kind old new (Err (Source e)) (min n (length mid))
padding_refused x kind old mid mid' new n e holds l h w s =
    let m = left_then kind old mid n l in
    let t = l.told in
    let p : padding n ≡ padding (told_length old) = ap padding t in
    let k : length mid' ≡ length mid - n = ap length w.left ∙ length-drop n mid in
    stopped _ cut_in_padding x kind old new (Err (Source e)) (min n (length mid))
    (stage_5 (type_byte kind) (length old) (told_length old) (told_value old) holds (omega (arith, w.enough, l.enough)) l.fit h
    (ap (good (type_byte kind)) (sym (value_then kind old mid n l)) ∙ good_judged kind (take n mid) w.judged) (omega (arith, s.short, w.enough, l.enough)))
    (ap (λ y. Err (Source y)) (s.cause ∙ ap Ended (omega arith))) (s.left ∙ sym (drop_all (length old) old (omega arith))) (omega (arith, w.enough))

-- To the end.
pub value_whole : {X : Type 0} (x y : X) (kind : TtlvType) (old mid mid' new : List ℕ) (n : ℕ) (holds : Bool) → Lengthed kind old mid n → holds ≡ true
    → Whole kind n mid mid' → Passed mid' new (padding n) → y ≡ x → Stopped (at_stage kind old holds) x kind old new (Ok y) (min n (length mid))
value_whole x y kind old mid mid' new n holds l h w s q =
    let m = left_then kind old mid n l in
    let t = l.told in
    let p : padding n ≡ padding (told_length old) = ap padding t in
    let k : length mid' ≡ length mid - n = ap length w.left ∙ length-drop n mid in
    let d : new ≡ drop (padding n + n) mid = s.left ∙ ap (λ a. drop (padding n) a) w.left ∙ drop-drop (padding n) n mid ∙ ap (λ j. drop j mid) (omega arith) in
    stopped _ whole x kind old new (Ok y) (min n (length mid))
    (stage_6 (type_byte kind) (length old) (told_length old) (told_value old) holds (omega (arith, s.enough, w.enough, l.enough)) l.fit h
    (ap (good (type_byte kind)) (sym (value_then kind old mid n l)) ∙ good_judged kind (take n mid) w.judged))
    (ap Ok q) (drop_then kind old mid new n (padding n + n) l d ∙ ap (λ j. drop j old) (omega arith)) (omega (arith, w.enough))

-- Reading into a scratch, and what then stands in it.
pub reads_value : (kind : TtlvType) (old new scratch scratch' : List ℕ) (r : Result ℕ ValueFault) (k : ℕ) → Stopped (at_stage kind old (leb (told_length old) (length scratch))) (told_length old) kind old new r k
    → scratch' ≡ take k (drop 4 old) ++ drop k scratch → ReadsValue kind old new scratch scratch' r
reads_value kind old new scratch scratch' r k s f = record { stops = s.stops; filled = f ∙ ap (λ j. take j (drop 4 old) ++ drop j scratch) (sym s.value) }
