use Rattle.std.proofs.Common.{◌≡◌, ◌≤◌, take}
use Rattle.streams.specs.Sinks.{grown}
use Rattle.streams.proofs.text.put_text.Given as goal

abbrev pub invariant-loop-b : goal.invariant-loop-b
invariant-loop-b g l = (g.S.Sink.store l.dst ≡ grown (g.S.Sink.store l.initial.dst) (take l.b-index l.text)) × (l.b-index ≤ (g.S.Sink.store l.initial.dst).memory.room)
