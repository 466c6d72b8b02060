use Rattle.std.proofs.lemmas.Result.{err_from_is_err_and}
use mir.Facts.{Fits-lt-pow}
use Rattle.std.proofs.Common.{drop, refl, ap, ◌∙◌}
use Rattle.hexadecimal.specs.Pairs.{spelled}
use Rattle.hexadecimal.specs.Layers.{hex_ahead}
use Rattle.hexadecimal.proofs.Spelled.{reads_what_was_written}
use Rattle.hexadecimal.proofs.Layered.{read_back}
use Rattle.hexadecimal.proofs.write.write_and_read_back.Goals as goal

pub returns-in_err-write_hex : goal.returns-in_err-write_hex
returns-in_err-write_hex g c =
    let p = err_from_is_err_and c.from_residual.result c.from_residual.ensures.1 in
    rw (p.1, p.2) (record { writes = c.in_err-write_hex.ensures; reads = refl; law = reads_what_was_written })

pub returns : goal.returns
returns g c =
    let store = g.S.Sink.store in
    let old = store c.args.below.now in
    let new = store c.write_hex.new.below in
    let src = c.new-written.result in
    let text = drop src.below.at (store src.below.sink.now).memory.held in
    let text-is = ap (λ q. drop q.at (store q.sink.now).memory.held) c.new-written.ensures.holds ∙ c.new.ensures in
    let ahead-is = ap (λ e. hex_ahead e text) c.new-written.ensures.begins ∙ ap spelled text-is in
    let put = c.in_ok-write_hex.ensures in
    record {
      writes = put;
      reads = read_back old new c.args.bytes.now c.args.back.now c.read.new.buf (hex_ahead src.ended text) _ c.count-from.result c.read.result
          put.1 c.count-from.ensures (λ i. Fits-lt-pow (c.type_inv.bytes i)) ahead-is c.read.ensures.hands c.read.ensures.most;
      law = reads_what_was_written;
    }
