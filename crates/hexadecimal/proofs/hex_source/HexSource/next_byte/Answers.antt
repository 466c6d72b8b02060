use Rattle.std.proofs.Common.{refl}
use Rattle.hexadecimal.proofs.Spelled.{pair_broke}
use Rattle.hexadecimal.proofs.hex_source.HexSource.next_byte.Goals as goal

pub returns-in-None : goal.returns-in-None
returns-in-None g c =
    let s = c.in-Ok.ensures in
    let p = pair_broke c.args.self.now.ended (g.S.Source.ahead c.args.self.now.below) (g.S.Source.ahead c.read_exact.new.src) c.read_exact.new.buf
    c.if-self.false s.enough s.filled s.left c.in-None.ensures in
    record { next = (p.0, refl); takes = p.1 }
