use Rattle.std.proofs.Common.{ap, ◌∙◌}
use Rattle.text.specs.Deciding.{whole, textual}
use Rattle.text.proofs.Texts.{decides_text}
use Rattle.text.proofs.utf8.is_text.Goals as goal

pub returns : goal.returns
unfolding textual
returns c =
    let e = c.is_whole.ensures ∙ ap whole c.run.ensures in
    record { answer = e; text = decides_text c.args.bytes.now c.is_whole.result e }
