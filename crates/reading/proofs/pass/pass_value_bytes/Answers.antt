use Rattle.std.proofs.Common.{◌≡◌, ◌-◌, length, take, replicate, ◌∙◌, arith}
use Rattle.std.proofs.lemmas.List.{length-take, length-replicate, length-take-le}
use Rattle.std.proofs.lemmas.Result.{err_from_is_err_and}
use Rattle.fields.specs.Types.{type_byte}
use Rattle.reading.specs.Reads.{printed}
use Rattle.reading.proofs.Parted.{bytes_bad, bytes_refused}
use Rattle.reading.proofs.Long.{long_is, long_good_bytes}
use Rattle.reading.proofs.pass.pass_value_bytes.Goals as goal

pub returns-in_err-check_long : goal.returns-in_err-check_long
returns-in_err-check_long g c =
    let p = err_from_is_err_and c.from_residual-in_err-check_long.result c.from_residual-in_err-check_long.ensures.1 in
    let old = g.R.Source.ahead c.args.src.now in
    let passed = c.in_ok-seen.ensures in
    rw (p.1, p.2) (bytes_bad (printed (type_byte c.args.kind) (take c.args.len old)) c.args.kind c.args.len old (g.R.Source.ahead c.pass_over.new.src) c.in_err-check_long.field-0.0
    passed.0.enough passed.0.left
    (c.in_err-check_long.ensures ∙ long_is c.args.kind c.args.len (take c.args.len old) c.in_ok-seen.seen (length-take-le c.args.len old passed.0.enough) passed.1 (omega arith)))

pub returns-then-len-gt8 : goal.returns-then-len-gt8
returns-then-len-gt8 g c =
    let passed = c.in_ok-seen.ensures in
    long_good_bytes c.args.kind c.args.len (g.R.Source.ahead c.args.src.now) (g.R.Source.ahead c.pass_over.new.src) c.in_ok-seen.seen
    passed.0 passed.1 (omega arith) c.in_ok-check_long.ensures

pub returns-in_err-read_value_bytes : goal.returns-in_err-read_value_bytes
returns-in_err-read_value_bytes g c =
    let p = err_from_is_err_and c.from_residual-in_err-read_value_bytes.result c.from_residual-in_err-read_value_bytes.ensures.1 in
    let old = g.R.Source.ahead c.args.src.now in
    let l : length (take (c.args.len - 0) (replicate 8 0)) ≡ c.args.len = simp (length-take, length-replicate) (omega arith) in
    rw (p.1, p.2) (bytes_refused tt (printed (type_byte c.args.kind) (take c.args.len old)) c.args.kind (length (take (c.args.len - 0) (replicate 8 0))) c.args.len old (g.R.Source.ahead c.read_value_bytes.new.src)
    c.in_err-read_value_bytes.field-0.0 l c.in_err-read_value_bytes.ensures.reads)
