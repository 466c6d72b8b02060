use Rattle.std.proofs.Common.{◌≡◌, map, string_bytes}
use Rattle.std.specs.List.{flat_map}
use Rattle.ttlvdiag.specs.Reports.{line_text}
use Rattle.ttlvdiag.proofs.report.report.Given as goal

abbrev pub invariant-loop-line : goal.invariant-loop-line
invariant-loop-line l = string_bytes l.out ≡ flat_map line_text (map (λ x. x.now) l.yielded)
