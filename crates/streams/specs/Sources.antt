-- What reading does, over the bytes that a source has still to hand out.
use Rattle.std.specs.Prelude.{◌≡◌, ℕ, ◌<◌, ◌≤◌, List, [], ◌++◌, length, take, drop, Ok, Err, Result}
use Rattle.streams.specs.declared.refusals.ReadRefusal.{ReadRefusal}
use Rattle.streams.specs.Refusals.{read_number, read_taken}

-- One read: the source had `old` ahead and then has `new`; the buffer held `buf` and then holds `buf'`; `m` bytes came.
-- The source chooses m, at least 1 where the buffer has a place and a byte is ahead.
pub record Handed (old new buf buf' : List ℕ) (m : ℕ) : Type 0 where
  pub within : m ≤ length buf
  pub had : m ≤ length old
  pub some : 0 < length buf → 0 < length old → 0 < m
  pub filled : buf' ≡ take m old ++ drop m buf
  pub left : new ≡ drop m old

-- An exact read that was served: the whole buffer came from the source.
pub record Served (old new buf buf' : List ℕ) : Type 0 where
  pub enough : length buf ≤ length old
  pub filled : buf' ≡ take (length buf) old
  pub left : new ≡ drop (length buf) old

-- An exact read at which the source ended first: what was left stands at the buffer's front, and the source has nothing more.
pub record Cut (old new buf buf' : List ℕ) (e : ReadRefusal) : Type 0 where
  pub number : read_number e ≡ 1
  pub short : length old < length buf
  pub taken : read_taken e ≡ length old
  pub filled : buf' ≡ old ++ drop (length old) buf
  pub left : new ≡ []

-- An exact read.
abbrev pub Reads : {X : Type 0} → List ℕ → List ℕ → List ℕ → List ℕ → Result X ReadRefusal → Type 0
Reads old new buf buf' (Ok _) = Served old new buf buf'
Reads old new buf buf' (Err e) = Cut old new buf buf' e
