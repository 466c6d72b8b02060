use Rattle.std.proofs.Common.{◌≡◌, ◌-◌, length}
use Rattle.streams.proofs.Going.{Going}
use Rattle.hexadecimal.specs.Layers.{hex_ahead, hex_asked}
use Rattle.hexadecimal.proofs.hex_source.HexSourceSource.read.Given as goal

abbrev pub invariant-loop-i : goal.invariant-loop-i
invariant-loop-i g l =
    Going (hex_ahead l.initial.self.ended (g.S.Source.ahead l.initial.self.below)) (hex_ahead l.self.ended (g.S.Source.ahead l.self.below))
    l.initial.buf l.buf l.i
    × (hex_asked (length l.initial.buf - l.i) l.self.ended (g.S.Source.ahead l.self.below)
    ≡ hex_asked (length l.initial.buf) l.initial.self.ended (g.S.Source.ahead l.initial.self.below))
