-- The hexadecimal layers, over the source or the sink below.
use Rattle.std.specs.Prelude.{◌≡◌, ℕ, ◌+◌, ◌*◌, ◌/◌, ◌%◌, ◌<◌, ◌≤◌, min, Bool, true, false, cond, List, [], ◌∷◌, ◌++◌, length, take, drop, Some, None, Ok, Err, Option, Result, ◌==◌, nat_lt}
use Rattle.streams.specs.declared.refusals.PutRefusal.{PutRefusal}
use Rattle.streams.specs.Refusals.{put_number}
use Rattle.streams.specs.Sinks.{Store, grown}
use Rattle.hexadecimal.specs.Digits.{hex_spelling, hexed}
use Rattle.hexadecimal.specs.Pairs.{spelled, paired}

-- What a source layer has ahead: the bytes that the text below spells, and nothing once it has ended.
abbrev pub hex_ahead : Bool → List ℕ → List ℕ
hex_ahead true text = []
hex_ahead false text = spelled text

-- A source layer: whether it has ended, and the text that is left below.
pub record Reading : Type 0 where
  pub ended : Bool
  pub text : List ℕ

-- A source layer once `k` bytes were asked for: it has taken a pair for each byte that came and, where fewer came, the broken pair too
-- (or what was left of it), and has then ended.
abbrev pub hex_asked : ℕ → Bool → List ℕ → Reading
hex_asked k true text = record { ended = true; text = text }
hex_asked k false text =
    cond (nat_lt (length (spelled text)) k) (record { ended = true; text = drop (2 * length (spelled text) + 2) text })
    (record { ended = false; text = drop (2 * k) text })

-- One byte asked for: the first of those ahead, or none, and then the layer has ended.
abbrev pub Next : Bool → List ℕ → Bool → List ℕ → Option ℕ → Type 0
Next ended text ended' text' (Some b) = hex_ahead ended text ≡ b ∷ hex_ahead ended' text'
Next ended text ended' text' None = (hex_ahead ended text ≡ []) × (ended' ≡ true)

-- The room of a sink layer, over the count and the room below: half of it rounded down, none while the last pair below is broken.
abbrev pub hex_room : ℕ → ℕ → ℕ
hex_room count room = cond (count % 2 == 0) (room / 2) 0

-- What a sink layer means, over the store below, which it borrows under the name `at`.
abbrev pub hex_store : ℕ → Store → Store
hex_store at s =
    record {
      memory = record { held = paired s.memory.held; room = hex_room (length s.memory.held) s.memory.room; beyond = [] };
      under = record { memory = s.memory; spelling = hex_spelling } ∷ s.under;
      place = at ∷ s.place;
    }

-- Bytes written as digits into a sink: refused with 8 exactly if they exceed the room of a layer over it, and then nothing changes.
abbrev pub WritesHex : {X : Type 0} → Store → Store → List ℕ → Result X PutRefusal → Type 0
WritesHex old new bytes (Ok _) = (length bytes ≤ hex_room (length old.memory.held) old.memory.room) × (new ≡ grown old (hexed bytes))
WritesHex old new bytes (Err e) = (hex_room (length old.memory.held) old.memory.room < length bytes) × (new ≡ old) × (put_number e ≡ 8)

-- Bytes written as digits into a sink and read back from there into a buffer: as many as fit stand at its front, and the rest of it is kept.
abbrev pub ReadsBackHex : List ℕ → List ℕ → List ℕ → Result ℕ PutRefusal → Type 0
ReadsBackHex bytes buf buf' (Ok m) = (m ≡ min (length buf) (length bytes)) × (buf' ≡ take m bytes ++ drop m buf)
ReadsBackHex bytes buf buf' (Err e) = buf' ≡ buf
