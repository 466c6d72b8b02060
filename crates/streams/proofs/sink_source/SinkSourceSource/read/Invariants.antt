use Rattle.std.proofs.Common.{◌+◌, drop}
use Rattle.streams.proofs.Going.{Going}
use Rattle.streams.proofs.sink_source.SinkSourceSource.read.Given as goal

abbrev pub invariant-loop-i : goal.invariant-loop-i
invariant-loop-i g l =
    let held = (g.S.Sink.store l.self.sink.now).memory.held in
    Going (drop l.self.at held) (drop (l.self.at + l.i) held) l.initial.buf l.buf l.i
