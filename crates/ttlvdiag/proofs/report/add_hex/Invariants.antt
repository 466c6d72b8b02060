use Rattle.std.proofs.Common.{◌≡◌, ◌++◌, take, string_bytes}
use Rattle.hexadecimal.specs.Digits.{hexed}
use Rattle.ttlvdiag.proofs.report.add_hex.Given as goal

abbrev pub invariant-loop-b : goal.invariant-loop-b
invariant-loop-b l = string_bytes l.out ≡ string_bytes l.initial.out ++ hexed (take l.b-index l.bytes)
