use Rattle.std.proofs.Common.{true, take, refl, ap, ◌∙◌}
use Rattle.std.proofs.lemmas.Result.{err_from_is_err_and}
use Rattle.fields.specs.Types.{type_byte}
use Rattle.reading.specs.Stages.{told_value}
use Rattle.reading.specs.Reads.{printed}
use Rattle.reading.proofs.Parted.{bytes_whole, bytes_answer}
use Rattle.reading.proofs.Staged.{length_refused, lengthed, value_refused, padding_refused, value_whole, value_then}
use Rattle.reading.proofs.read.pass_value.Goals as goal

pub returns-in_err-len : goal.returns-in_err-len
returns-in_err-len g c =
    let p = err_from_is_err_and c.from_residual.result c.from_residual.ensures.1 in
    let old = g.R.Source.ahead c.args.src.now in
    rw (p.1, p.2) (length_refused (printed (type_byte c.args.kind) (told_value old)) c.args.kind old (g.R.Source.ahead c.read_value_length.new.src) c.in_err-len.field-0.0 true c.in_err-len.ensures).stops

pub returns-in_err-shown : goal.returns-in_err-shown
returns-in_err-shown g c =
    let p = err_from_is_err_and c.from_residual-in_err-shown.result c.from_residual-in_err-shown.ensures.1 in
    let old = g.R.Source.ahead c.args.src.now in
    let mid = g.R.Source.ahead c.read_value_length.new.src in
    rw (p.1, p.2) (value_refused (printed (type_byte c.args.kind) (told_value old)) _ c.args.kind old mid (g.R.Source.ahead c.pass_value_bytes.new.src) c.in_ok-len.len c.in_err-shown.field-0.0 true
    (lengthed c.args.kind old mid c.in_ok-len.len c.in_ok-len.ensures) refl c.in_err-shown.ensures).stops

pub returns-in_err-pass_padding : goal.returns-in_err-pass_padding
returns-in_err-pass_padding g c =
    let p = err_from_is_err_and c.from_residual-in_err-pass_padding.result c.from_residual-in_err-pass_padding.ensures.1 in
    let old = g.R.Source.ahead c.args.src.now in
    let mid = g.R.Source.ahead c.read_value_length.new.src in
    let next = g.R.Source.ahead c.pass_value_bytes.new.src in
    rw (p.1, p.2) (padding_refused (printed (type_byte c.args.kind) (told_value old)) c.args.kind old mid next (g.R.Source.ahead c.pass_padding.new.src) c.in_ok-len.len c.in_err-pass_padding.field-0.0 true
    (lengthed c.args.kind old mid c.in_ok-len.len c.in_ok-len.ensures) refl
    (bytes_whole _ c.in_ok-shown.shown c.args.kind c.in_ok-len.len c.in_ok-len.len mid next refl c.in_ok-shown.ensures) c.in_err-pass_padding.ensures).stops

pub returns : goal.returns
returns g c =
    let kind = c.args.kind in
    let old = g.R.Source.ahead c.args.src.now in
    let mid = g.R.Source.ahead c.read_value_length.new.src in
    let next = g.R.Source.ahead c.pass_value_bytes.new.src in
    let l = lengthed kind old mid c.in_ok-len.len c.in_ok-len.ensures in
    let x = printed (type_byte kind) (take c.in_ok-len.len mid) in
    (value_whole (printed (type_byte kind) (told_value old)) c.in_ok-shown.shown kind old mid next (g.R.Source.ahead c.pass_padding.new.src) c.in_ok-len.len true
    l refl (bytes_whole x c.in_ok-shown.shown kind c.in_ok-len.len c.in_ok-len.len mid next refl c.in_ok-shown.ensures) c.in_ok-pass_padding.ensures
    (bytes_answer x c.in_ok-shown.shown kind c.in_ok-len.len mid next c.in_ok-shown.ensures ∙ ap (printed (type_byte kind)) (value_then kind old mid c.in_ok-len.len l))).stops
