-- What the program prints for what it reads.
use Rattle.std.specs.Prelude.{ℕ, cond, List, length, codes, nat_lt}
use Rattle.std.specs.List.{flat_map}
use Rattle.hexadecimal.specs.Digits.{hexed}
use Rattle.hexadecimal.specs.Pairs.{spelled}
use Rattle.ttlvdiag.specs.Lines.{lines, ended}

-- The text for one line: the bytes that its digit pairs spell, in uppercase hexadecimal.
abbrev pub message_text : List ℕ → List ℕ
message_text line = hexed (spelled line)

-- The text for a line, ended by LF.
abbrev pub line_text : List ℕ → List ℕ
line_text line = ended (message_text line)

-- The text for an input: that of each line, or `too long` alone for more than 65,536 bytes.
abbrev pub report_text : List ℕ → List ℕ
report_text input = cond (nat_lt 65536 (length input)) (ended (codes "too long")) (flat_map line_text (lines input))
