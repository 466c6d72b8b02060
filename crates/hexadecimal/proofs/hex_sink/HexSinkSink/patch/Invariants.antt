use Rattle.std.proofs.Common.{◌≡◌, length, take}
use Rattle.streams.specs.Sinks.{patched}
use Rattle.hexadecimal.specs.Layers.{hex_store}
use Rattle.hexadecimal.proofs.hex_sink.HexSinkSink.patch.Given as goal

abbrev pub invariant-loop-i : goal.invariant-loop-i
invariant-loop-i g l =
    (hex_store l.self.below.ghost_name (g.S.Sink.store l.self.below.now) ≡ patched (hex_store l.initial.self.below.ghost_name (g.S.Sink.store l.initial.self.below.now)) l.at (take l.i l.bytes))
    × (length (g.S.Sink.store l.self.below.now).memory.held ≡ length (g.S.Sink.store l.initial.self.below.now).memory.held)
