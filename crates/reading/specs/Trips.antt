-- A value written to a sink and read back from it.
use Rattle.std.specs.Prelude.{◌≡◌, ℕ, cond, List, ◌++◌, length, drop, Ok, Err, Result, nat_le, nat_lt}
use Rattle.streams.specs.Sinks.{Store, grown}
use Rattle.ttlv.specs.Kinds.{value_item}
use Rattle.values.specs.declared.refusals.WriteRefusal.TheVariants.{TooLong, NoRoom}
use Rattle.values.specs.Writing.{message_limit}
use Rattle.reading.specs.declared.refusals.ValueFault.TheVariants.{ScratchTooShort}
use Rattle.reading.specs.declared.round_trip.RoundTripFault.{RoundTripFault}
use Rattle.reading.specs.declared.round_trip.RoundTripFault.TheVariants.{Write, Read}

-- One of three, by whether the value is longer than a message, or than the room, or neither.
abbrev pub written_or : {X : Type 0} → List ℕ → Store → X → X → X → X
written_or bytes old too_long no_room x =
    cond (nat_lt message_limit (length (value_item bytes))) too_long (cond (nat_lt old.memory.room (length (value_item bytes))) no_room x)

-- A value of the bytes is written and read back: refused as in writing, with nothing changed; then, once it is written, with 21; else its length is
-- answered, and its bytes stand in the scratch.
pub record RoundTrip (bytes : List ℕ) (old new : Store) (scratch scratch' : List ℕ) (r : Result ℕ RoundTripFault) : Type 0 where
  pub answer : r ≡ written_or bytes old (Err (Write TooLong)) (Err (Write NoRoom))
      (cond (nat_le (length bytes) (length scratch)) (Ok (length bytes)) (Err (Read (ScratchTooShort (length bytes)))))
  pub after : new ≡ written_or bytes old old old (grown old (value_item bytes))
  pub filled : scratch' ≡ written_or bytes old scratch scratch
      (cond (nat_le (length bytes) (length scratch)) (bytes ++ drop (length bytes) scratch) scratch)

-- A value of fixed length is written and read back: it is that value.
pub record FixedTrip {X : Type 0} (v : X) (bytes : List ℕ) (old new : Store) (r : Result X RoundTripFault) : Type 0 where
  pub answer : r ≡ written_or bytes old (Err (Write TooLong)) (Err (Write NoRoom)) (Ok v)
  pub after : new ≡ written_or bytes old old old (grown old (value_item bytes))
