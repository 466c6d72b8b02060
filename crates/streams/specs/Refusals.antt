-- The refusals of the streams: the number of each case, and the values that it tells.
use Rattle.std.specs.Prelude.{ℕ, List, ◌++◌, codes, decimal}
use Rattle.streams.specs.declared.refusals.ReadRefusal.{ReadRefusal}
use Rattle.streams.specs.declared.refusals.ReadRefusal.TheVariants.{Ended}
use Rattle.streams.specs.declared.refusals.PutRefusal.{PutRefusal}
use Rattle.streams.specs.declared.refusals.PutRefusal.TheVariants.{NoRoom}
use Rattle.streams.specs.declared.refusals.PlaceRefusal.{PlaceRefusal}
use Rattle.streams.specs.declared.refusals.PlaceRefusal.TheVariants.{OutOfRange}

-- An exact read: 1, the source ended first.
abbrev pub read_number : ReadRefusal → ℕ
read_number (Ended taken) = 1

-- How many bytes came before the source ended.
abbrev pub read_taken : ReadRefusal → ℕ
read_taken (Ended taken) = taken

-- A put: 8, more bytes than room.
abbrev pub put_number : PutRefusal → ℕ
put_number NoRoom = 8

-- A patch or a look: 23, a place that the sink does not hold.
abbrev pub place_number : PlaceRefusal → ℕ
place_number OutOfRange = 23

-- What each refusal says to people.
abbrev pub read_text : ReadRefusal → List ℕ
read_text (Ended taken) = codes "refused 1: the source ended after " ++ (decimal taken ++ codes " bytes")

abbrev pub put_text : PutRefusal → List ℕ
put_text NoRoom = codes "refused 8: no room for the bytes"

abbrev pub place_text : PlaceRefusal → List ℕ
place_text OutOfRange = codes "refused 23: the sink has no such place"
