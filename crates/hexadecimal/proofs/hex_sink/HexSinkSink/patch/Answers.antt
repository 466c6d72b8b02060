use Rattle.std.proofs.Common.{◌+◌, ◌/◌, length, sym, refl, arith}
use mir.Facts.{Fits-lt-pow}
use Rattle.std.proofs.lemmas.Bool.{ltb-true, ltb-false}
use Rattle.streams.proofs.Growing.{patched_none}
use Rattle.hexadecimal.specs.Layers.{hex_store}
use Rattle.hexadecimal.proofs.Layered.{hex_patch_one, hex_patch_all, length_paired}
use Rattle.hexadecimal.proofs.hex_sink.HexSinkSink.patch.Goals as goal

pub returns-then-reaches_past : goal.returns-then-reaches_past
returns-then-reaches_past g c =
    let n = length_paired (g.S.Sink.store c.args.self.now.below.now).memory.held in
    let past = ltb-true (c.count.result / 2) (c.args.at + length c.args.bytes.now) (sym c.if-reaches_past.ensures) in
    (omega arith, refl, refl)

pub loop-i-init : goal.loop-i-init
loop-i-init g c = (patched_none (hex_store c.args.self.now.below.ghost_name (g.S.Sink.store c.args.self.now.below.now)) c.args.at, refl)

pub loop-i-preserved : goal.loop-i-preserved
loop-i-preserved g c =
    let within = ltb-false (c.count.result / 2) (c.args.at + length c.args.bytes.now) (sym c.if-reaches_past.ensures) in
    let store = g.S.Sink.store in
    hex_patch_one c.args.self.now.below.ghost_name c.loop-i.self.below.ghost_name (store c.args.self.now.below.now) (store c.loop-i.self.below.now) (store c.patch.new.self) c.args.bytes.now c.digits.result c.args.at c.loop-i.i
    c.digits.ensures (Fits-lt-pow (c.type_inv.bytes c.loop-i.i)) c.in_ok-patch.ensures c.loop-i.invariant c.loop-i-test.true (omega arith)

pub returns : goal.returns
returns g c =
    let within = ltb-false (c.count.result / 2) (c.args.at + length c.args.bytes.now) (sym c.if-reaches_past.ensures) in
    let store = g.S.Sink.store in
    hex_patch_all c.args.self.now.below.ghost_name c.loop-i.self.below.ghost_name (store c.args.self.now.below.now) (store c.loop-i.self.below.now) c.args.bytes.now c.args.at c.loop-i.i c.loop-i.invariant c.loop-i-test.false (omega arith)
