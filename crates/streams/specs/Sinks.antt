-- What a put, a patch and a look do, over what a sink means.
use Rattle.std.specs.Prelude.{◌≡◌, ℕ, ◌+◌, ◌-◌, ◌<◌, ◌≤◌, List, [], ◌∷◌, length, take, drop, Ok, Err, Result, slice_index}
use Rattle.streams.specs.declared.refusals.PutRefusal.{PutRefusal}
use Rattle.streams.specs.declared.refusals.PlaceRefusal.{PlaceRefusal}
use Rattle.streams.specs.Refusals.{put_number, place_number}
use Rattle.streams.specs.Memories.{Memory, Layer, overwritten, appended, mended, appended_below, mended_below}

-- What a sink is: its memory; the sinks below it, where it is a layer; and the names of what it borrows, which stay as they are,
-- so that a lender knows its own memory afterwards.
pub record Store : Type 0 where
  pub memory : Memory
  pub under : List Layer
  pub place : List ℕ

-- A sink once `bytes` are appended.
abbrev pub grown : Store → List ℕ → Store
grown s bytes = record { memory = appended s.memory bytes; under = appended_below s.under bytes; place = s.place }

-- A sink once the bytes from `p` on are overwritten.
abbrev pub patched : Store → ℕ → List ℕ → Store
patched s p bytes = record { memory = mended s.memory p bytes; under = mended_below s.under p bytes; place = s.place }

-- One put: refused with 8 exactly if the bytes exceed the room, and then nothing changes.
abbrev pub Puts : {X : Type 0} → Store → Store → List ℕ → Result X PutRefusal → Type 0
Puts old new bytes (Ok _) = (length bytes ≤ old.memory.room) × (new ≡ grown old bytes)
Puts old new bytes (Err e) = (old.memory.room < length bytes) × (new ≡ old) × (put_number e ≡ 8)

-- One patch: refused with 23 exactly if it would leave the bytes held, and then nothing changes.
abbrev pub Patches : {X : Type 0} → Store → Store → ℕ → List ℕ → Result X PlaceRefusal → Type 0
Patches old new p bytes (Ok _) = (p + length bytes ≤ length old.memory.held) × (new ≡ patched old p bytes)
Patches old new p bytes (Err e) = (length old.memory.held < p + length bytes) × (new ≡ old) × (place_number e ≡ 23)

-- Bytes overwritten where they stand: refused with 23 exactly if that would leave them, and then nothing changes.
abbrev pub Overwrites : {X : Type 0} → List ℕ → List ℕ → ℕ → List ℕ → Result X PlaceRefusal → Type 0
Overwrites old new p bytes (Ok _) = (p + length bytes ≤ length old) × (new ≡ overwritten old p bytes)
Overwrites old new p bytes (Err e) = (length old < p + length bytes) × (new ≡ old) × (place_number e ≡ 23)

-- One look: refused with 23 exactly if the place is not below the count.
abbrev pub Looks : Store → ℕ → Result ℕ PlaceRefusal → Type 0
Looks s p (Ok b) = (p < length s.memory.held) × (b ≡ slice_index s.memory.held p)
Looks s p (Err e) = (length s.memory.held ≤ p) × (place_number e ≡ 23)

-- A text put byte by byte: the sink receives its first bytes up to the room; refused with 8 exactly if the text is longer.
abbrev pub Texts : {X : Type 0} → Store → Store → List ℕ → Result X PutRefusal → Type 0
Texts old new text (Ok _) = (length text ≤ old.memory.room) × (new ≡ grown old text)
Texts old new text (Err e) = (old.memory.room < length text) × (new ≡ grown old (take old.memory.room text)) × (put_number e ≡ 8)

-- A buffer whose first `n` bytes are held, borrowed under the name `at`.
abbrev pub buffer_store : List ℕ → ℕ → ℕ → Store
buffer_store buf n at = record { memory = record { held = take n buf; room = length buf - n; beyond = drop n buf }; under = []; place = at ∷ [] }

-- An owned buffer that holds `bytes` of the `reserved` that were reserved.
abbrev pub owned_store : List ℕ → ℕ → Store
owned_store bytes reserved = record { memory = record { held = bytes; room = reserved - length bytes; beyond = [] }; under = []; place = [] }
