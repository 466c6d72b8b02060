-- The faults of reading a value: the number of each, which is that of its cause.
use Rattle.std.specs.Prelude.{ℕ, List, ◌++◌, codes, decimal}
use Rattle.streams.specs.Refusals.{read_number, read_text}
use Rattle.values.specs.Refusals.{value_number, write_number, value_text, write_text}
use Rattle.reading.specs.declared.refusals.ValueFault.{ValueFault}
use Rattle.reading.specs.declared.refusals.ValueFault.TheVariants.{Source, Value, ScratchTooShort}
use Rattle.reading.specs.declared.round_trip.RoundTripFault.{RoundTripFault}
use Rattle.reading.specs.declared.round_trip.RoundTripFault.TheVariants.{Write, Read}

-- 1 from the source; 4 and 5 from the value; 21, a scratch that is shorter than the value, which it tells.
abbrev pub fault_number : ValueFault → ℕ
fault_number (Source e) = read_number e
fault_number (Value e) = value_number e
fault_number (ScratchTooShort needed) = 21

-- Writing and reading back: the number of the cause.
abbrev pub trip_number : RoundTripFault → ℕ
trip_number (Write e) = write_number e
trip_number (Read e) = fault_number e

-- What a fault says to people: what its cause says.
abbrev pub fault_text : ValueFault → List ℕ
fault_text (Source e) = read_text e
fault_text (Value e) = value_text e
fault_text (ScratchTooShort needed) = codes "refused 21: the scratch is shorter than the value of " ++ (decimal needed ++ codes " bytes")

abbrev pub trip_text : RoundTripFault → List ℕ
trip_text (Write e) = write_text e
trip_text (Read e) = fault_text e
