use Rattle.std.proofs.Common.{replicate, refl}
use Rattle.std.proofs.lemmas.Result.{err_from_is_err_and}
use Rattle.reading.specs.Stages.{told_value}
use Rattle.reading.proofs.Eight.{fixed_refused, fixed_whole}
use Rattle.reading.proofs.fixed.read_fixed.Goals as goal

pub returns-in_err-read_value : goal.returns-in_err-read_value
returns-in_err-read_value g c =
    let p = err_from_is_err_and c.from_residual.result c.from_residual.ensures.1 in
    let old = g.R.Source.ahead c.args.src.now in
    let fixed = g.V.FixedLengthTtlvType in
    let spelt = g.V.SpeltTtlvType in
    let met = g.met.V.FixedLengthTtlvType in
    let laws = g.met.V.SpeltTtlvType in
    rw (p.1, p.2) (fixed_refused (spelt.spelt (told_value old)) c.fixed_type.result spelt.typed old (g.R.Source.ahead c.read_value.new.src) (replicate 8 0) c.read_value.new.scratch
    fixed.fixed c.in_err-read_value.field-0.0 c.fixed_type.ensures laws.only met.short refl c.in_err-read_value.ensures.reads)

pub returns : goal.returns
returns g c =
    let old = g.R.Source.ahead c.args.src.now in
    let fixed = g.V.FixedLengthTtlvType in
    let spelt = g.V.SpeltTtlvType in
    let met = g.met.V.FixedLengthTtlvType in
    let laws = g.met.V.SpeltTtlvType in
    fixed_whole spelt.spelt c.from_spelt.result c.fixed_type.result spelt.typed old (g.R.Source.ahead c.read_value.new.src) (replicate 8 0) c.read_value.new.scratch
    fixed.fixed c.in_ok-read_value.field-0 c.fixed_type.ensures laws.only met.short refl c.in_ok-read_value.ensures.reads c.from_spelt.ensures.spelt
