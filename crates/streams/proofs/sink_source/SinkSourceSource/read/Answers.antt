use Rattle.std.proofs.Common.{arith}
use Rattle.streams.proofs.Going.{going_look_from}
use Rattle.streams.proofs.sink_source.SinkSourceSource.read.Goals as goal

pub loop-i-preserved : goal.loop-i-preserved
loop-i-preserved g c =
    let held = (g.S.Sink.store c.args.self.now.sink.now).memory.held in
    let look = rw c.unwrap.ensures at c.byte_at.ensures in
    going_look_from held c.args.buf.now c.loop-i.buf c.args.self.now.at c.loop-i.i c.unwrap.result
    c.loop-i.invariant (omega (arith, look.0)) look.1 (omega arith)
