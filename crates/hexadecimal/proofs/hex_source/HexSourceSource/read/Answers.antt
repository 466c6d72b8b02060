use Rattle.std.proofs.Common.{◌≡◌, ◌+◌, ◌-◌, length, ap, ◌∙◌, arith}
use Rattle.streams.proofs.Going.{going_push, going_over, going_full, most_over, most_full}
use Rattle.hexadecimal.specs.Layers.{hex_ahead, hex_asked}
use Rattle.hexadecimal.proofs.Spelled.{asked_none, asked_then, asked_ended, ahead_ended}
use Rattle.hexadecimal.proofs.hex_source.HexSourceSource.read.Goals as goal

pub loop-i-preserved : goal.loop-i-preserved
loop-i-preserved g c =
    let s₀ = c.args.self.now in let s₁ = c.loop-i.self in let s₂ = c.next_byte.new.self in let ahead = g.S.Source.ahead in
    let k = length c.args.buf.now in let done = c.loop-i.i in
    let less : k - (done + 1) + 1 ≡ k - done = omega arith in (
      going_push (hex_ahead s₀.ended (ahead s₀.below)) (hex_ahead s₁.ended (ahead s₁.below)) (hex_ahead s₂.ended (ahead s₂.below))
          c.args.buf.now c.loop-i.buf done c.in-Some.b c.loop-i.invariant.0 c.in-Some.ensures.next (omega arith),
      asked_then (k - (done + 1)) s₁.ended (ahead s₁.below) (record { ended = s₂.ended; text = ahead s₂.below }) c.next_byte.ensures.takes
          ∙ ap (λ n. hex_asked n s₁.ended (ahead s₁.below)) less ∙ c.loop-i.invariant.1,
    )

pub returns : goal.returns
returns g c =
    let s₀ = c.args.self.now in let s₁ = c.loop-i.self in let ahead = g.S.Source.ahead in
    let k = length c.args.buf.now in let done = c.loop-i.i in
    let none : 0 ≡ k - done = omega arith in
    let full : length c.loop-i.buf ≡ done = omega arith in
    let old = hex_ahead s₀.ended (ahead s₀.below) in let new = hex_ahead s₁.ended (ahead s₁.below) in
    record {
      hands = rw full (going_full old new c.args.buf.now c.loop-i.buf done c.loop-i.invariant.0 (omega arith));
      most = rw full (most_full old new c.args.buf.now c.loop-i.buf done c.loop-i.invariant.0 (omega arith));
      takes = asked_none s₁.ended (ahead s₁.below) ∙ ap (λ n. hex_asked n s₁.ended (ahead s₁.below)) none ∙ c.loop-i.invariant.1;
    }

pub returns-in_default : goal.returns-in_default
returns-in_default g c =
    let s₀ = c.args.self.now in let s₁ = c.loop-i.self in let s₂ = c.next_byte.new.self in let ahead = g.S.Source.ahead in
    let k = length c.args.buf.now in let done = c.loop-i.i in
    let less : k - (done + 1) + 1 ≡ k - done = omega arith in
    let old = hex_ahead s₀.ended (ahead s₀.below) in let new = hex_ahead s₁.ended (ahead s₁.below) in let new' = hex_ahead s₂.ended (ahead s₂.below) in
    let none = c.in_default.ensures.next in
    let gone = ahead_ended s₂.ended (ahead s₂.below) none.1 in
    record {
      hands = going_over old new new' c.args.buf.now c.loop-i.buf done c.loop-i.invariant.0 none.0 gone;
      most = most_over old new new' c.args.buf.now c.loop-i.buf done c.loop-i.invariant.0 none.0 gone;
      takes = asked_ended (k - (done + 1)) s₂.ended (ahead s₂.below) none.1
          ∙ asked_then (k - (done + 1)) s₁.ended (ahead s₁.below) (record { ended = s₂.ended; text = ahead s₂.below }) c.next_byte.ensures.takes
          ∙ ap (λ n. hex_asked n s₁.ended (ahead s₁.below)) less ∙ c.loop-i.invariant.1;
    }
