-- Fields that are not read, or cut short.
use Rattle.std.proofs.Common.{◌≡◌, ℕ, Bool, true, false, cond, List, length, Ok, Err, Result, nat_lt, sym, ap, ◌∙◌}
use Rattle.std.proofs.lemmas.Bool.{lt-ltb, cond-true}
use Rattle.streams.specs.declared.refusals.ReadRefusal.{ReadRefusal}
use Rattle.streams.specs.declared.refusals.ReadRefusal.TheVariants.{Ended}
use Rattle.streams.specs.Sources.{Cut}
use Rattle.fields.specs.declared.field_type.FieldType.{FieldType}
use Rattle.fields.specs.declared.refusals.AdvanceRefusal.{AdvanceRefusal}
use Rattle.fields.specs.declared.state_machine.TtlvStateMachine.{TtlvStateMachine}
use Rattle.fields.specs.Machine.{advanced}
use Rattle.faults.specs.declared.item_fault.ItemFault.{ItemFault}
use Rattle.faults.specs.declared.item_fault.ItemFault.TheVariants.{Source, Field}
use Rattle.reading.proofs.Parted.{ended, none_left}
use Rattle.items.specs.Fields.{ReadsField, field_answer, field_left}

cut : {X Y : Type 0} (short : Bool) (f : ItemFault) (x : X) (y : Result Y ItemFault) (e : ItemFault) → ◌≡◌ {A = Result X ItemFault} (Err e) (cond short (Err f) (Ok x))
    → ◌≡◌ {A = Result Y ItemFault} (Err e) (cond short (Err f) y)
cut true f x y e h = let g : e ≡ f = cc in ap Err g
cut false f x y e h = cc

refused : {X Y : Type 0} (a : Result Bool AdvanceRefusal) (n : ℕ) (old : List ℕ) (x : X) (y : Result Y ItemFault) (e : ItemFault)
    → ◌≡◌ {A = Result X ItemFault} (Err e) (field_answer a n old (Ok x)) → ◌≡◌ {A = Result Y ItemFault} (Err e) (field_answer a n old y)
refused (Err a) n old x y e h = let g : e ≡ Field a = cc in ap Err g
refused (Ok b) n old x y e h = cut (nat_lt (length old) n) (Source (Ended (length old))) x y e h

-- A field whose bytes are not read is refused whatever they would have told.
pub field_refused : {X Y : Type 0} {field : FieldType} {n : ℕ} {x : X} {y : Result Y ItemFault} {s s' : TtlvStateMachine} {old new : List ℕ} {e : ItemFault}
    → ReadsField field n (Ok x) s s' old new (Err e) → ReadsField field n y s s' old new (Err e)
field_refused {field = field} {n = n} {x = x} {y = y} {s = s} {old = old} {e = e} h =
    record { answer = refused (advanced s field).0 n old x y e h.answer; state = h.state; left = h.left }

-- The source ended in a field that the machine had taken.
pub field_cut : {X : Type 0} (x : Result X ItemFault) (field : FieldType) (s s' : TtlvStateMachine) (b : Bool) (old new buf buf' : List ℕ) (e : ReadRefusal)
    → Ok b ≡ (advanced s field).0 → s' ≡ (advanced s field).1 → Cut old new buf buf' e → ReadsField field (length buf) x s s' old new (Err (Source e))
field_cut x field s s' b old new buf buf' e a t c =
    record {
      answer = ap (λ y. Err (Source y)) (ended e (length old) c.taken) ∙ sym (cond-true _ _ _ (lt-ltb (length old) (length buf) c.short)) ∙ ap (λ d. field_answer d (length buf) old x) a;
      state = t;
      left = none_left (length buf) old new c.short c.left ∙ ap (λ d. field_left d (length buf) old) a;
    }
