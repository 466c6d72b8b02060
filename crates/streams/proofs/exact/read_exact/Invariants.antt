use Rattle.std.proofs.Common.{◌-◌, length}
use Rattle.streams.proofs.Going.{Going}
use Rattle.streams.proofs.exact.read_exact.Given as goal

abbrev pub invariant-loop-taken : goal.invariant-loop-taken
invariant-loop-taken g l = Going (g.S.Source.ahead l.initial.src) (g.S.Source.ahead l.src) l.initial.buf l.buf l.taken

abbrev pub decreases-loop-taken : goal.decreases-loop-taken
decreases-loop-taken g l = length l.initial.buf - l.taken
