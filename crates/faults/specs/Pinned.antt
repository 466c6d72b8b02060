-- A fault with its place.
use Rattle.std.specs.Prelude.{Ok, Err, Result}
use Rattle.faults.specs.declared.item_fault.ItemFault.{ItemFault}
use Rattle.faults.specs.declared.error_location.ErrorLocation.{ErrorLocation}
use Rattle.faults.specs.declared.fault.Fault.{Fault}

-- What was read, or the fault with its place.
abbrev pub pinned : {X : Type 0} → Result X ItemFault → ErrorLocation → Result X Fault
pinned (Ok x) location = Ok x
pinned (Err cause) location = Err record { cause = cause; location = location }
