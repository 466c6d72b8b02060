use Rattle.streams.proofs.Going.{going_more}
use Rattle.streams.proofs.exact.read_exact.Goals as goal

pub loop-taken-preserved : goal.loop-taken-preserved
loop-taken-preserved g c =
    going_more (g.S.Source.ahead c.args.src.now) (g.S.Source.ahead c.loop-taken.src) (g.S.Source.ahead c.read-m.new.self)
    c.args.buf.now c.loop-taken.buf c.read-m.new.buf c.loop-taken.taken c.read-m.result c.loop-taken.invariant c.read-m.ensures
