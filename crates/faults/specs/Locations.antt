-- Where faults sit.
use Rattle.std.specs.Prelude.{Bool, true, false, Some, None, Option}
use Rattle.fields.specs.declared.byte_offset.ByteOffset.{ByteOffset}
use Rattle.faults.specs.declared.error_location.ErrorLocation.{ErrorLocation}

-- A place of which only the first byte is known, and one of which nothing is.
abbrev pub placed : ByteOffset → ErrorLocation
placed offset = record { offset = Some offset; tag = None; kind = None }

abbrev pub unplaced : ErrorLocation
unplaced = record { offset = None; tag = None; kind = None }

-- What is known, or else what another knows.
abbrev pub or_else : {X : Type 0} → Option X → Option X → Option X
or_else (Some x) y = Some x
or_else None y = y

abbrev pub is_none : {X : Type 0} → Option X → Bool
is_none (Some x) = false
is_none None = true
