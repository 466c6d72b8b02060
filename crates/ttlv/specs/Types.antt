-- The types of items: 1 Structure, 2 Integer, 3 Long Integer, 4 Big Integer, 5 Enumeration, 6 Boolean, 7 Text String, 8 Byte String,
-- 9 Date-Time.
use Rattle.std.specs.Prelude.{ℕ, cond, ◌&&◌, ◌==◌, nat_le}

-- What a type byte is: a type of the table, a type of the standard that is not handled (0x0A, Interval), or none.
pub data Told : Type 0 where
  known : Told
  unsupported : Told
  invalid : Told

abbrev pub told : ℕ → Told
told b = cond (nat_le 1 b && nat_le b 9) known (cond (b == 10) unsupported invalid)
