-- The parts of a value as they are read.
use Rattle.std.proofs.Common.{◌≡◌, ℕ, ◌<◌, ◌≤◌, Bool, true, false, cond, ltb, List, [], ◌++◌, length, take, drop, Ok, Err, Result, sym, refl, ap, ◌∙◌, subst, arith}
use Rattle.std.proofs.lemmas.List.{take_all, drop_all, append-nil}
use Rattle.std.proofs.lemmas.Bool.{lt-ltb, le-ltb, ltb-false, cond-true, cond-false}
use Rattle.streams.specs.declared.refusals.ReadRefusal.{ReadRefusal}
use Rattle.streams.specs.declared.refusals.ReadRefusal.TheVariants.{Ended}
use Rattle.streams.specs.Refusals.{read_taken}
use Rattle.streams.specs.Sources.{Served, Cut}
use Rattle.fields.specs.declared.ttlv_type.TtlvType.{TtlvType}
use Rattle.values.specs.declared.refusals.ValueRefusal.{ValueRefusal}
use Rattle.values.specs.Legal.{bytes_judged}
use Rattle.reading.specs.declared.refusals.ValueFault.{ValueFault}
use Rattle.reading.specs.declared.refusals.ValueFault.TheVariants.{Source, Value}
use Rattle.reading.specs.Parts.{ReadsBytes, judged_as, Short}

pub ended : (e : ReadRefusal) (n : ℕ) → read_taken e ≡ n → e ≡ Ended n
ended (Ended t) n h = ap Ended h

-- Past the end there is nothing.
pub none_left : (n : ℕ) (old new : List ℕ) → length old < n → new ≡ [] → new ≡ drop n old
none_left n old new h e = e ∙ sym (drop_all n old (omega arith))

pub bytes_short : {X : Type 0} (x : X) (kind : TtlvType) (n : ℕ) (old new : List ℕ) (e : ReadRefusal) → length old < n → read_taken e ≡ length old → new ≡ []
    → ReadsBytes x kind n old new (Err (Source e))
bytes_short x kind n old new e h t l =
    record { answer = ap (λ y. Err (Source y)) (ended e (length old) t) ∙ sym (cond-true _ _ _ (lt-ltb (length old) n h)); left = none_left n old new h l }

pub bytes_bad : {X : Type 0} (x : X) (kind : TtlvType) (n : ℕ) (old new : List ℕ) (e : ValueRefusal) → n ≤ length old → new ≡ drop n old → Err e ≡ bytes_judged kind (take n old)
    → ReadsBytes x kind n old new (Err (Value e))
bytes_bad x kind n old new e h l j = record { answer = ap (judged_as x) j ∙ sym (cond-false _ _ _ (le-ltb (length old) n h)); left = l }

pub bytes_good : {X : Type 0} (x : X) (kind : TtlvType) (n : ℕ) (old new : List ℕ) → n ≤ length old → new ≡ drop n old → Ok tt ≡ bytes_judged kind (take n old)
    → ReadsBytes x kind n old new (Ok x)
bytes_good x kind n old new h l j = record { answer = ap (judged_as x) j ∙ sym (cond-false _ _ _ (le-ltb (length old) n h)); left = l }

-- What a buffer holds after an exact read, cut short or not.
pub filled_cut : (old new buf buf' : List ℕ) (e : ReadRefusal) → Cut old new buf buf' e → buf' ≡ take (length buf) old ++ drop (length old) buf
filled_cut old new buf buf' e c = c.filled ∙ ap (λ l. l ++ drop (length old) buf) (sym (take_all (length buf) old (omega (arith, c.short))))

pub filled_served : (old new buf buf' : List ℕ) → Served old new buf buf' → buf' ≡ take (length buf) old ++ drop (length old) buf
filled_served old new buf buf' s =
    s.filled ∙ sym (append-nil (take (length buf) old)) ∙ ap (λ l. take (length buf) old ++ l) (sym (drop_all (length old) buf s.enough))

-- The source ended before all the bytes came.
pub bytes_ended : {X : Type 0} (x : X) (kind : TtlvType) (n : ℕ) (old new : List ℕ) (e : ReadRefusal) → Short old new n e → ReadsBytes x kind n old new (Err (Source e))
bytes_ended x kind n old new e s = bytes_short x kind n old new e s.short (ap read_taken s.cause) s.left

-- A refusal is the same whatever the answer would be.
refused_too : {X Y : Type 0} (x : X) (y : Y) (b : Bool) (short e : ValueFault) (j : Result (Unit {0}) ValueRefusal)
    → Err e ≡ cond b (Err short) (judged_as x j) → Err e ≡ cond b (Err short) (judged_as y j)
refused_too x y true short e j h = let q : e ≡ short = cc in ap Err q
refused_too x y false short e (Ok u) h = let z : ◌≡◌ {A = ℕ} 0 1 = cc in absurd (omega arith)
refused_too x y false short e (Err v) h = let q : e ≡ Value v = cc in ap Err q

pub bytes_refused : {X Y : Type 0} (x : X) (y : Y) (kind : TtlvType) (n m : ℕ) (old new : List ℕ) (e : ValueFault) → n ≡ m → ReadsBytes x kind n old new (Err e) → ReadsBytes y kind m old new (Err e)
bytes_refused x y kind n m old new e q r =
    subst (λ k. ReadsBytes y kind k old new (Err e)) q
    record { answer = refused_too x y (ltb (length old) n) (Source (Ended (length old))) e (bytes_judged kind (take n old)) r.answer; left = r.left }

-- What an answer tells: there were enough, and they were judged good.
accepted : {X : Type 0} (x y : X) (b : Bool) (short : ValueFault) (j : Result (Unit {0}) ValueRefusal) → Ok y ≡ cond b (Err short) (judged_as x j) → (b ≡ false) × (j ≡ Ok tt)
accepted x y true short j h = let z : ◌≡◌ {A = ℕ} 0 1 = cc in absurd (omega arith)
accepted x y false short (Ok u) h = (refl, refl)
accepted x y false short (Err v) h = let z : ◌≡◌ {A = ℕ} 0 1 = cc in absurd (omega arith)

pub record Whole (kind : TtlvType) (n : ℕ) (old new : List ℕ) : Type 0 where
  pub enough : n ≤ length old
  pub judged : bytes_judged kind (take n old) ≡ Ok tt
  pub left : new ≡ drop n old

pub bytes_whole : {X : Type 0} (x y : X) (kind : TtlvType) (n m : ℕ) (old new : List ℕ) → n ≡ m → ReadsBytes x kind n old new (Ok y) → Whole kind m old new
bytes_whole x y kind n m old new q r =
    let a = accepted x y (ltb (length old) n) (Source (Ended (length old))) (bytes_judged kind (take n old)) r.answer in
    subst (λ k. Whole kind k old new) q record { enough = ltb-false (length old) n a.0; judged = a.1; left = r.left }

same_answer : {X : Type 0} (x y : X) (b : Bool) (short : ValueFault) (j : Result (Unit {0}) ValueRefusal) → Ok y ≡ cond b (Err short) (judged_as x j) → y ≡ x
same_answer x y true short j h = let z : ◌≡◌ {A = ℕ} 0 1 = cc in absurd (omega arith)
same_answer x y false short (Ok u) h = cc
same_answer x y false short (Err v) h = let z : ◌≡◌ {A = ℕ} 0 1 = cc in absurd (omega arith)

pub bytes_answer : {X : Type 0} (x y : X) (kind : TtlvType) (n : ℕ) (old new : List ℕ) → ReadsBytes x kind n old new (Ok y) → y ≡ x
bytes_answer x y kind n old new r = same_answer x y (ltb (length old) n) (Source (Ended (length old))) (bytes_judged kind (take n old)) r.answer
