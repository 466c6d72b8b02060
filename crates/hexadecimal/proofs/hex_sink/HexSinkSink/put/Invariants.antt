use Rattle.std.proofs.Common.{◌≡◌, ◌≤◌, take}
use Rattle.streams.specs.Sinks.{grown}
use Rattle.hexadecimal.specs.Layers.{hex_store}
use Rattle.hexadecimal.proofs.hex_sink.HexSinkSink.put.Given as goal

abbrev pub invariant-loop-b : goal.invariant-loop-b
invariant-loop-b g l =
    (hex_store l.self.below.ghost_name (g.S.Sink.store l.self.below.now) ≡ grown (hex_store l.initial.self.below.ghost_name (g.S.Sink.store l.initial.self.below.now)) (take l.b-index l.bytes))
    × (l.b-index ≤ (hex_store l.initial.self.below.ghost_name (g.S.Sink.store l.initial.self.below.now)).memory.room)
