use Rattle.std.proofs.Common.{arith}
use Rattle.streams.proofs.Growing.{grown_none, grown_more}
use Rattle.streams.proofs.text.put_text.Goals as goal

pub loop-b-init : goal.loop-b-init
loop-b-init g c = (grown_none (g.S.Sink.store c.args.dst.now), omega arith)

pub loop-b-preserved : goal.loop-b-preserved
loop-b-preserved g c =
    let store = g.S.Sink.store in
    grown_more (store c.args.dst.now) (store c.loop-b.dst) (store c.put.new.self) c.args.text.now c.loop-b.b-index
    c.loop-b.invariant c.loop-b-test.true c.in_ok-put.ensures
