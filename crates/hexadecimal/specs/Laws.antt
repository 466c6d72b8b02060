-- The laws of hexadecimal text, in the words of the format.
use Rattle.std.specs.Prelude.{◌≡◌, ℕ, ◌+◌, ◌*◌, ◌<◌, List, [], ◌∷◌, ◌++◌, Some, None, slice_index}
use Rattle.hexadecimal.specs.Digits.{nibble, both, hexed}
use Rattle.hexadecimal.specs.Pairs.{spelled}

-- A text of nothing but digit pairs, and the bytes that it spells.
pub data AllPairs : List ℕ → List ℕ → Type 0 where
  no_more : AllPairs [] []
  one_more : (a b high low : ℕ) (text bytes : List ℕ) → nibble a ≡ Some high → nibble b ≡ Some low → AllPairs text bytes → AllPairs (a ∷ b ∷ text) ((high * 16 + low) ∷ bytes)

-- A text that does not begin with a digit pair.
abbrev pub NoPair : List ℕ → Type 0
NoPair text = (a b : ℕ) (more : List ℕ) → text ≡ a ∷ b ∷ more → both (nibble a) (nibble b) ≡ None

-- The longest run of digit pairs at the front of a text spells `bytes`.
pub record LongestRun (text bytes : List ℕ) : Type 0 where
  pub run : List ℕ
  pub rest : List ℕ
  pub whole : text ≡ run ++ rest
  pub spells : AllPairs run bytes
  pub ends : NoPair rest

-- A hexadecimal source means the bytes of the longest run of digit pairs at the front of the text below.
abbrev pub SpellsLongestRun : Type 0
SpellsLongestRun = (text : List ℕ) → LongestRun text (spelled text)

-- What is written through a hexadecimal sink and read through a hexadecimal source is what was written, whatever text follows.
abbrev pub ReadsWhatWasWritten : Type 0
ReadsWhatWasWritten = (bytes rest : List ℕ) → ((i : ℕ) → slice_index bytes i < 256) → spelled (hexed bytes ++ rest) ≡ bytes ++ spelled rest
