-- The lines of an input.
use Rattle.std.specs.Prelude.{◌≡◌, ℕ, ◌<◌, cond, List, [], ◌∷◌, ◌++◌, length, ◌==◌, ◌≢◌, slice_index}
use Rattle.std.specs.List.{flat_map}
use Rattle.ttlvdiag.specs.declared.lines.Lines.{Lines}

-- A character in front of the first line.
abbrev pub led_by : ℕ → List (List ℕ) → List (List ℕ)
led_by c [] = (c ∷ []) ∷ []
led_by c (line ∷ more) = (c ∷ line) ∷ more

-- The lines of a text: LF, which is 10, ends a line, and what follows the last LF is a line too unless it is empty.
abbrev pub lines : List ℕ → List (List ℕ)
lines [] = []
lines (c ∷ text) = cond (c == 10) ([] ∷ lines text) (led_by c (lines text))

-- What an iterator over lines has still to give: the lines of the text that is left.
abbrev pub lines_left : Lines → List (List ℕ)
lines_left it = lines it.rest.now

-- The first line of a text, and what follows its LF.
abbrev pub first_line : List ℕ → List ℕ
first_line [] = []
first_line (c ∷ text) = cond (c == 10) [] (c ∷ first_line text)

abbrev pub after_line : List ℕ → List ℕ
after_line [] = []
after_line (c ∷ text) = cond (c == 10) text (after_line text)

-- A line with the LF that ends it.
abbrev pub ended : List ℕ → List ℕ
ended line = line ++ (10 ∷ [])

-- No line holds an LF.
abbrev pub Unbroken : List (List ℕ) → Type 0
Unbroken [] = Unit {0}
Unbroken (line ∷ more) = ((k : ℕ) → k < length line → slice_index line k ≢ 10) × Unbroken more

-- A text with an LF at its end, where it is not empty and lacks one.
abbrev pub closed : List ℕ → List ℕ
closed [] = []
closed (c ∷ []) = cond (c == 10) (c ∷ []) (c ∷ 10 ∷ [])
closed (c ∷ d ∷ text) = c ∷ closed (d ∷ text)

-- The lines are the text cut at each LF: no line holds one, and with an LF after each line they are the text again, its last line ended too.
pub record CutAtLf (text : List ℕ) (ls : List (List ℕ)) : Type 0 where
  pub unbroken : Unbroken ls
  pub whole : flat_map ended ls ≡ closed text

abbrev pub CutsAtLf : Type 0
CutsAtLf = (text : List ℕ) → CutAtLf text (lines text)
