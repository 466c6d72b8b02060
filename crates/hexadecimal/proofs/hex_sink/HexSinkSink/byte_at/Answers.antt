use Rattle.std.proofs.Common.{◌+◌, ◌*◌, get_or, refl, ap, ◌∙◌, arith}
use Rattle.hexadecimal.specs.Digits.{nibble_or_0}
use Rattle.hexadecimal.proofs.Layered.{length_paired, paired_at}
use Rattle.hexadecimal.proofs.hex_sink.HexSinkSink.byte_at.Goals as goal

pub returns-then-p-count : goal.returns-then-p-count
returns-then-p-count g c = let n = length_paired (g.S.Sink.store c.args.self.now.below.now).memory.held in (omega arith, refl)

pub returns : goal.returns
returns g c =
    let x = (g.S.Sink.store c.args.self.now.below.now).memory.held in
    let p = c.args.p in
    let n = length_paired x in
    let h = c.in_ok-high.ensures.1 in
    let l = c.in_ok-low.ensures.1 in (
      omega arith,
      c.pair_or_zero.ensures ∙ ap (λ v. nibble_or_0 v * 16 + nibble_or_0 c.in_ok-low.low) h ∙ ap (λ v. nibble_or_0 (get_or x (2 * p) 0) * 16 + nibble_or_0 v) l
          ∙ paired_at x p (omega arith),
    )
