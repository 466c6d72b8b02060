-- Writing a value alone.
use Rattle.std.specs.Prelude.{◌≡◌, ℕ, cond, List, length, Ok, Err, Result, nat_lt}
use Rattle.streams.specs.Sinks.{Store, grown}
use Rattle.values.specs.declared.refusals.WriteRefusal.{WriteRefusal}
use Rattle.values.specs.Refusals.{write_number}

-- The most bytes that a message has.
abbrev pub message_limit : ℕ
message_limit = 16777216

-- The number of an answer, 0 where the bytes were written.
abbrev pub write_answer : {X : Type 0} → Result X WriteRefusal → ℕ
write_answer (Ok _) = 0
write_answer (Err e) = write_number e

-- Bytes written into a sink, all or none: refused with 15 if they exceed a message, then with 8 if they exceed the room.
pub record Written (answer : ℕ) (old new : Store) (bytes : List ℕ) : Type 0 where
  pub number : answer ≡ cond (nat_lt message_limit (length bytes)) 15 (cond (nat_lt old.memory.room (length bytes)) 8 0)
  pub after : new ≡ cond (nat_lt message_limit (length bytes)) old (cond (nat_lt old.memory.room (length bytes)) old (grown old bytes))
