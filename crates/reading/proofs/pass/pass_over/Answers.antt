use Rattle.std.proofs.Common.{◌-◌, take, replicate, arith}
use Rattle.std.proofs.lemmas.List.{length-take, length-replicate}
use Rattle.reading.proofs.Passing.{passing_more}
use Rattle.reading.proofs.pass.pass_over.Goals as goal

pub loop-taken-preserved : goal.loop-taken-preserved
loop-taken-preserved g c =
    passing_more (g.R.Source.ahead c.args.src.now) (g.R.Source.ahead c.loop-taken.src) (g.R.Source.ahead c.read-m.new.self)
    (take (c.min-most.result - 0) (replicate 256 0)) c.read-m.new.buf c.args.n c.loop-taken.taken c.read-m.result c.loop-taken.seen c.run-seen.result
    c.loop-taken.invariant c.read-m.ensures (simp (length-take, length-replicate) (omega arith)) c.run-seen.ensures
