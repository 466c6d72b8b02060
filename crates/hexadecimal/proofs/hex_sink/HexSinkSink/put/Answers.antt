use Rattle.std.proofs.Common.{get_or, arith}
use mir.Facts.{Fits-lt-pow}
use Rattle.hexadecimal.specs.Layers.{hex_store}
use Rattle.streams.proofs.Growing.{grown_none, grown_more, grown_all}
use Rattle.hexadecimal.proofs.Layered.{hex_put_one, hex_left}
use Rattle.hexadecimal.proofs.hex_sink.HexSinkSink.put.Goals as goal

pub loop-b-init : goal.loop-b-init
loop-b-init g c = (grown_none (hex_store c.args.self.now.below.ghost_name (g.S.Sink.store c.args.self.now.below.now)), omega arith)

pub loop-b-preserved : goal.loop-b-preserved
loop-b-preserved g c =
    let s = g.S.Sink.store c.args.self.now.below.now in let t = g.S.Sink.store c.loop-b.self.below.now in let u = g.S.Sink.store c.put.new.self in
    let n₀ = c.args.self.now.below.ghost_name in let n = c.loop-b.self.below.ghost_name in
    let bytes = c.args.bytes.now in let i = c.loop-b.b-index in
    let more = hex_left (hex_store n₀ s) (hex_store n t) bytes i c.loop-b.invariant c.loop-b-test.true (omega arith) in
    grown_more (hex_store n₀ s) (hex_store n t) (hex_store n u) bytes i c.loop-b.invariant c.loop-b-test.true
    (hex_put_one n t u c.digits.result (get_or bytes i 0) c.digits.ensures c.in_ok-put.ensures more (Fits-lt-pow (c.type_inv.bytes i)))

pub returns : goal.returns
returns g c =
    grown_all (hex_store c.args.self.now.below.ghost_name (g.S.Sink.store c.args.self.now.below.now)) (hex_store c.loop-b.self.below.ghost_name (g.S.Sink.store c.loop-b.self.below.now))
    c.args.bytes.now c.loop-b.b-index c.loop-b.invariant c.loop-b-test.false
