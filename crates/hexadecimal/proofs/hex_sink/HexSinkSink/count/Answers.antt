use Rattle.std.proofs.Common.{arith}
use Rattle.hexadecimal.proofs.Layered.{length_paired}
use Rattle.hexadecimal.proofs.hex_sink.HexSinkSink.count.Goals as goal

pub returns : goal.returns
returns g c = let e = length_paired (g.S.Sink.store c.args.self.now.below.now).memory.held in omega arith
