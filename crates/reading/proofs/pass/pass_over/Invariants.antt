use Rattle.std.proofs.Common.{◌-◌}
use Rattle.reading.proofs.Passing.{Passing}
use Rattle.reading.proofs.pass.pass_over.Given as goal

abbrev pub invariant-loop-taken : goal.invariant-loop-taken
invariant-loop-taken g l = Passing (g.R.Source.ahead l.initial.src) (g.R.Source.ahead l.src) l.n l.taken l.seen

abbrev pub decreases-loop-taken : goal.decreases-loop-taken
decreases-loop-taken g l = l.n - l.taken
