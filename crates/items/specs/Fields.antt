-- Fields read through the state machine.
use Rattle.std.specs.Prelude.{◌≡◌, ℕ, Bool, cond, List, length, drop, Ok, Err, Result, nat_lt}
use Rattle.streams.specs.declared.refusals.ReadRefusal.TheVariants.{Ended}
use Rattle.fields.specs.declared.field_type.FieldType.{FieldType}
use Rattle.fields.specs.declared.ttlv_type.TtlvType.{TtlvType}
use Rattle.fields.specs.declared.refusals.AdvanceRefusal.{AdvanceRefusal}
use Rattle.fields.specs.declared.refusals.TypeRefusal.{TypeRefusal}
use Rattle.fields.specs.declared.state_machine.TtlvStateMachine.{TtlvStateMachine}
use Rattle.fields.specs.Machine.{advanced}
use Rattle.faults.specs.declared.item_fault.ItemFault.{ItemFault}
use Rattle.faults.specs.declared.item_fault.ItemFault.TheVariants.{Source, «Type», Field}

-- The answer for a field of n bytes: 9 if the machine refuses it; 1 if the source ends first; else `x`, which the bytes tell.
abbrev pub field_answer : {X : Type 0} → Result Bool AdvanceRefusal → ℕ → List ℕ → Result X ItemFault → Result X ItemFault
field_answer (Err e) n old x = Err (Field e)
field_answer (Ok b) n old x = cond (nat_lt (length old) n) (Err (Source (Ended (length old)))) x

-- What is then left: nothing is taken where the machine refuses.
abbrev pub field_left : Result Bool AdvanceRefusal → ℕ → List ℕ → List ℕ
field_left (Err e) n old = old
field_left (Ok b) n old = drop n old

pub record ReadsField {X : Type 0} (field : FieldType) (n : ℕ) (x : Result X ItemFault) (s s' : TtlvStateMachine) (old new : List ℕ) (r : Result X ItemFault) : Type 0 where
  pub answer : r ≡ field_answer (advanced s field).0 n old x
  pub state : s' ≡ (advanced s field).1
  pub left : new ≡ field_left (advanced s field).0 n old

-- A type byte's verdict as an answer on the item.
abbrev pub typed : Result TtlvType TypeRefusal → Result TtlvType ItemFault
typed (Ok t) = Ok t
typed (Err e) = Err («Type» e)
