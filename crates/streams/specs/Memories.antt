-- The memory of a sink, and of the sinks that lie below a layer.
use Rattle.std.specs.Prelude.{ℕ, ◌+◌, ◌-◌, ◌*◌, List, [], ◌∷◌, ◌++◌, map, length, take, drop}
use Rattle.std.specs.List.{flat_map}

-- `xs` with the bytes from `p` on overwritten by `bytes`.
abbrev pub overwritten : List ℕ → ℕ → List ℕ → List ℕ
overwritten xs p bytes = take p xs ++ (bytes ++ drop (p + length bytes) xs)

-- The bytes held, how many more have room, and what stands in the memory past the bytes held
-- (nothing, where the sink has no such memory).
pub record Memory : Type 0 where
  pub held : List ℕ
  pub room : ℕ
  pub beyond : List ℕ

-- A memory once `bytes` are appended.
abbrev pub appended : Memory → List ℕ → Memory
appended m bytes = record { held = m.held ++ bytes; room = m.room - length bytes; beyond = drop (length bytes) m.beyond }

-- A memory once the bytes from `p` on are overwritten.
abbrev pub mended : Memory → ℕ → List ℕ → Memory
mended m p bytes = record { held = overwritten m.held p bytes; room = m.room; beyond = m.beyond }

-- How a layer writes a byte into the sink below: for each byte there, a function that gives it.
abbrev pub Spelling : Type 0
Spelling = List (ℕ → ℕ)

-- What stands below for one byte above, and for several.
abbrev pub spelt_byte : Spelling → ℕ → List ℕ
spelt_byte spelling b = map (λ (f : ℕ → ℕ). f b) spelling

abbrev pub spelt : Spelling → List ℕ → List ℕ
spelt spelling bytes = flat_map (spelt_byte spelling) bytes

-- A sink below a layer: its memory, and how the layer writes into it.
pub record Layer : Type 0 where
  pub memory : Memory
  pub spelling : Spelling

-- The sinks below, from the top down, once the sink above them has appended `bytes`.
abbrev pub appended_below : List Layer → List ℕ → List Layer
appended_below [] bytes = []
appended_below (l ∷ ls) bytes =
    record { memory = appended l.memory (spelt l.spelling bytes); spelling = l.spelling }
    ∷ appended_below ls (spelt l.spelling bytes)

-- The sinks below, once the sink above them has overwritten what it holds from `p` on.
abbrev pub mended_below : List Layer → ℕ → List ℕ → List Layer
mended_below [] p bytes = []
mended_below (l ∷ ls) p bytes =
    record { memory = mended l.memory (length l.spelling * p) (spelt l.spelling bytes); spelling = l.spelling }
    ∷ mended_below ls (length l.spelling * p) (spelt l.spelling bytes)
