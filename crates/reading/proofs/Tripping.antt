-- A value written and read back.
use Rattle.std.proofs.Common.{◌≡◌, ℕ, ◌^◌, ◌<◌, Bool, true, false, cond, eqb, ltb, leb, List, [], ◌++◌, length, drop, Ok, Err, Result, sym, refl, ap, ◌∙◌, subst, arith}
use Rattle.std.proofs.lemmas.List.{drop_at, append-nil, length-append}
use Rattle.std.proofs.lemmas.Bool.{ltb-false, leb-true, eq-eqb, cond-true, cond-false}
use Rattle.streams.specs.Sinks.{Store, grown}
use Rattle.ttlv.specs.Kinds.{fits, value_item, Legal}
use Rattle.fields.specs.declared.ttlv_type.TtlvType.{TtlvType}
use Rattle.fields.specs.Types.{type_byte}
use Rattle.values.specs.declared.refusals.WriteRefusal.{WriteRefusal}
use Rattle.values.specs.declared.refusals.WriteRefusal.TheVariants.{TooLong, NoRoom}
use Rattle.values.specs.Refusals.{write_number}
use Rattle.values.specs.Legal.{good}
use Rattle.values.specs.Writing.{Written, message_limit}
use Rattle.values.proofs.Putting.{length_value_item}
use Rattle.reading.specs.declared.refusals.ValueFault.{ValueFault}
use Rattle.reading.specs.declared.refusals.ValueFault.TheVariants.{ScratchTooShort}
use Rattle.reading.specs.declared.round_trip.RoundTripFault.{RoundTripFault}
use Rattle.reading.specs.declared.round_trip.RoundTripFault.TheVariants.{Write, Read}
use Rattle.reading.specs.Stages.{whole, no_scratch, told_length, told_value, into_scratch, without_scratch, answered}
use Rattle.reading.specs.Reads.{Stops, ReadsValue, ReadBack, scratched}
use Rattle.reading.specs.Trips.{written_or, RoundTrip, FixedTrip}
use Rattle.reading.proofs.Staged.{stage_2}
use Rattle.reading.proofs.Back.{reads_back, reads_back_good}

-- What was written stands at the end of the sink.
pub item_ahead : (old new : Store) (ahead item : List ℕ) (at : ℕ) → at ≡ length old.memory.held → new ≡ grown old item → ahead ≡ drop at new.memory.held → ahead ≡ item ++ []
item_ahead old new ahead item at e g a =
    a ∙ ap (λ s. drop at s.memory.held) g ∙ drop_at old.memory.held item at (sym e) ∙ sym (append-nil item)

-- It was written: it was not too long, and had room.
pub record Put (bytes : List ℕ) (old new : Store) : Type 0 where
  pub short : ltb message_limit (length (value_item bytes)) ≡ false
  pub room : ltb old.memory.room (length (value_item bytes)) ≡ false
  pub after : new ≡ grown old (value_item bytes)

put_at : (bytes : List ℕ) (old new : Store) (a b : Bool) → ltb message_limit (length (value_item bytes)) ≡ a → ltb old.memory.room (length (value_item bytes)) ≡ b
    → ◌≡◌ {A = ℕ} 0 (cond a 15 (cond b 8 0)) → new ≡ cond a old (cond b old (grown old (value_item bytes))) → Put bytes old new
put_at bytes old new true b p q n e = absurd (omega arith)
put_at bytes old new false true p q n e = absurd (omega arith)
put_at bytes old new false false p q n e = record { short = p; room = q; after = e }

pub put_whole : (bytes : List ℕ) (old new : Store) → Written 0 old new (value_item bytes) → Put bytes old new
put_whole bytes old new w = put_at bytes old new _ _ refl refl w.number w.after

pub put_short : (bytes : List ℕ) (old new : Store) → Put bytes old new → length bytes < 2 ^ 32
put_short bytes old new p =
    let s = ltb-false message_limit (length (value_item bytes)) p.short in
    let l = length_value_item bytes in
    omega arith

chosen : {X : Type 0} (bytes : List ℕ) (old new : Store) (a b c : X) → Put bytes old new → c ≡ written_or bytes old a b c
chosen bytes old new a b c p = sym (cond-false _ _ _ p.short ∙ cond-false _ _ _ p.room)

-- It was not written.
unwritten_at : (bytes : List ℕ) (old new : Store) (scratch : List ℕ) (e : WriteRefusal) (a b : Bool) → ltb message_limit (length (value_item bytes)) ≡ a → ltb old.memory.room (length (value_item bytes)) ≡ b
    → write_number e ≡ cond a 15 (cond b 8 0) → new ≡ cond a old (cond b old (grown old (value_item bytes))) → RoundTrip bytes old new scratch scratch (Err (Write e))
unwritten_at bytes old new scratch TooLong true b p q n e =
    record { answer = sym (cond-true _ _ _ p); after = e ∙ sym (cond-true _ _ _ p); filled = sym (cond-true _ _ _ p) }
unwritten_at bytes old new scratch NoRoom true b p q n e = absurd (omega arith)
unwritten_at bytes old new scratch TooLong false true p q n e = absurd (omega arith)
unwritten_at bytes old new scratch NoRoom false true p q n e =
    record { answer = sym (cond-false _ _ _ p ∙ cond-true _ _ _ q); after = e ∙ sym (cond-false _ _ _ p ∙ cond-true _ _ _ q); filled = sym (cond-false _ _ _ p ∙ cond-true _ _ _ q) }
unwritten_at bytes old new scratch TooLong false false p q n e = absurd (omega arith)
unwritten_at bytes old new scratch NoRoom false false p q n e = absurd (omega arith)

pub trip_unwritten : (bytes : List ℕ) (old new : Store) (scratch : List ℕ) (e : WriteRefusal) → Written (write_number e) old new (value_item bytes) → RoundTrip bytes old new scratch scratch (Err (Write e))
trip_unwritten bytes old new scratch e w = unwritten_at bytes old new scratch e _ _ refl refl w.number w.after

-- The stage at which the reading of it ends, by whether the scratch holds it.
back_at : (type room : ℕ) (bytes : List ℕ) (b : Bool) → ReadBack type bytes [] → fits type (length bytes) ≡ true → leb (length bytes) room ≡ b
    → into_scratch type room (value_item bytes ++ []) ≡ cond b whole no_scratch
back_at type room bytes true k f e = k.into room (leb-true (length bytes) room e)
back_at type room bytes false k f e =
    let l = length-append (value_item bytes) [] in
    let m = length_value_item bytes in
    stage_2 type (length (value_item bytes ++ [])) (told_length (value_item bytes ++ [])) (told_value (value_item bytes ++ [])) _ (omega arith) (ap (fits type) k.len ∙ f) (ap (λ n. leb n room) k.len ∙ e)

answer_at : (kind : TtlvType) (bytes : List ℕ) (left len : ℕ) (b : Bool) → len ≡ length bytes
    → answered len kind left len (cond b whole no_scratch) ≡ cond b (Ok (length bytes)) (Err (ScratchTooShort (length bytes)))
answer_at kind bytes left len true e = ap Ok e
answer_at kind bytes left len false e = ap (λ n. Err (ScratchTooShort n)) e

filled_at : (type : ℕ) (bytes scratch : List ℕ) (b : Bool) → ReadBack type bytes [] → scratched (cond b whole no_scratch) (value_item bytes ++ []) scratch ≡ cond b (bytes ++ drop (length bytes) scratch) scratch
filled_at type bytes scratch true k = ap (λ v. v ++ drop (told_length (value_item bytes ++ [])) scratch) k.value ∙ ap (λ n. bytes ++ drop n scratch) k.len
filled_at type bytes scratch false k = refl

pub record CameBack (bytes scratch scratch' : List ℕ) (r : Result ℕ ValueFault) : Type 0 where
  pub answer : r ≡ cond (leb (length bytes) (length scratch)) (Ok (length bytes)) (Err (ScratchTooShort (length bytes)))
  pub filled : scratch' ≡ cond (leb (length bytes) (length scratch)) (bytes ++ drop (length bytes) scratch) scratch

pub came_back : (kind : TtlvType) (bytes ahead new scratch scratch' : List ℕ) (r : Result ℕ ValueFault) → Legal (type_byte kind) bytes → length bytes < 2 ^ 32 → ahead ≡ value_item bytes ++ []
    → ReadsValue kind ahead new scratch scratch' r → CameBack bytes scratch scratch' r
came_back kind bytes ahead new scratch scratch' r legal lt a v =
    let k = reads_back (type_byte kind) bytes [] legal lt in
    let s = back_at (type_byte kind) (length scratch) bytes (leb (length bytes) (length scratch)) k legal.long refl in
    let w = subst (λ l. ReadsValue kind l new scratch scratch' r) a v in
    record {
      answer = w.stops.answer ∙ ap (λ t. answered (told_length (value_item bytes ++ [])) kind (length (value_item bytes ++ [])) (told_length (value_item bytes ++ [])) t) s
          ∙ answer_at kind bytes (length (value_item bytes ++ [])) (told_length (value_item bytes ++ [])) (leb (length bytes) (length scratch)) k.len;
      filled = w.filled ∙ ap (λ t. scratched t (value_item bytes ++ []) scratch) s ∙ filled_at (type_byte kind) bytes scratch (leb (length bytes) (length scratch)) k;
    }

lift_err : (b : Bool) (n : ℕ) (e : ValueFault) → Err e ≡ cond b (Ok n) (Err (ScratchTooShort n)) → ◌≡◌ {A = Result ℕ RoundTripFault} (Err (Read e)) (cond b (Ok n) (Err (Read (ScratchTooShort n))))
lift_err true n e h = let z : ◌≡◌ {A = ℕ} 0 1 = cc in absurd (omega arith)
lift_err false n e h = let q : e ≡ ScratchTooShort n = cc in ap (λ y. Err (Read y)) q

lift_ok : (b : Bool) (n m : ℕ) → ◌≡◌ {A = Result ℕ ValueFault} (Ok m) (cond b (Ok n) (Err (ScratchTooShort n))) → ◌≡◌ {A = Result ℕ RoundTripFault} (Ok m) (cond b (Ok n) (Err (Read (ScratchTooShort n))))
lift_ok true n m h = let q : m ≡ n = cc in ap Ok q
lift_ok false n m h = let z : ◌≡◌ {A = ℕ} 0 1 = cc in absurd (omega arith)

pub trip_refused : (bytes : List ℕ) (old new : Store) (scratch scratch' : List ℕ) (e : ValueFault) → Put bytes old new → CameBack bytes scratch scratch' (Err e) → RoundTrip bytes old new scratch scratch' (Err (Read e))
trip_refused bytes old new scratch scratch' e p c =
    record {
      answer = lift_err (leb (length bytes) (length scratch)) (length bytes) e c.answer ∙ chosen bytes old new _ _ _ p;
      after = p.after ∙ chosen bytes old new _ _ _ p;
      filled = c.filled ∙ chosen bytes old new _ _ _ p;
    }

pub trip_done : (bytes : List ℕ) (old new : Store) (scratch scratch' : List ℕ) (n : ℕ) → Put bytes old new → CameBack bytes scratch scratch' (Ok n) → RoundTrip bytes old new scratch scratch' (Ok n)
trip_done bytes old new scratch scratch' n p c =
    record {
      answer = lift_ok (leb (length bytes) (length scratch)) (length bytes) n c.answer ∙ chosen bytes old new _ _ _ p;
      after = p.after ∙ chosen bytes old new _ _ _ p;
      filled = c.filled ∙ chosen bytes old new _ _ _ p;
    }

-- A value of fixed length: reading comes to its end, with the value that the bytes write.
pub fixed_back : {X : Type 0} (spelt : List ℕ → X) (v : X) (typed : TtlvType) (bytes ahead new : List ℕ) (fixed : ℕ) (r : Result X ValueFault) → ((n : ℕ) → fits (type_byte typed) n ≡ eqb n fixed)
    → ((bs : List ℕ) → good (type_byte typed) bs ≡ true) → length bytes ≡ fixed → length bytes < 2 ^ 32 → spelt bytes ≡ v → ahead ≡ value_item bytes ++ []
    → Stops (without_scratch (type_byte typed) ahead) (spelt (told_value ahead)) typed ahead new r → r ≡ Ok v
fixed_back spelt v typed bytes ahead new fixed r only all l lt back a s =
    let f : fits (type_byte typed) (length bytes) ≡ true = only (length bytes) ∙ ap (λ n. eqb n fixed) l ∙ same fixed in
    let k = reads_back_good (type_byte typed) bytes [] f (all bytes) lt in
    let w = subst (λ t. Stops (without_scratch (type_byte typed) t) (spelt (told_value t)) typed t new r) a s in
    w.answer ∙ ap (λ t. answered (spelt (told_value (value_item bytes ++ []))) typed (length (value_item bytes ++ [])) (told_length (value_item bytes ++ [])) t) k.without
    ∙ ap (λ x. Ok (spelt x)) k.value ∙ ap Ok back
  where
    same : (n : ℕ) → eqb n n ≡ true
    same n = eq-eqb n n refl

-- It was written and read back.
pub fixed_done : {X : Type 0} (v x : X) (bytes : List ℕ) (old new : Store) → Put bytes old new → ◌≡◌ {A = Result X ValueFault} (Ok x) (Ok v) → FixedTrip v bytes old new (Ok x)
fixed_done v x bytes old new p e = let q : x ≡ v = cc in record { answer = ap Ok q ∙ chosen bytes old new _ _ _ p; after = p.after ∙ chosen bytes old new _ _ _ p }

pub never : {X : Type 0} (v : X) (e : ValueFault) → ◌≡◌ {A = Result X ValueFault} (Err e) (Ok v) → ⊥
never v e h = let z : ◌≡◌ {A = ℕ} 0 1 = cc in absurd (omega arith)
