use Rattle.std.proofs.Common.{ap, ◌∙◌, arith}
use Rattle.ttlv.specs.Numbers.{be}
use Rattle.ttlv.specs.Kinds.{value_item}
use Rattle.values.proofs.Putting.{all_written, fixed_puts, length_fixed}
use Rattle.values.proofs.spelt.write_fixed.Goals as goal

pub returns-clause-writes : goal.returns-clause-writes
returns-clause-writes g c =
    let bytes = g.V.SerializableTtlvType.value c.args.v.now in
    let fixed = g.V.FixedLengthTtlvType.fixed in
    let laws = g.met.V.FixedLengthTtlvType in
    let long = laws.long c.args.v.now in
    let some = g.met.V.SpeltTtlvType.some in
    let l = length_fixed bytes fixed long some laws.short in
    all_written _ _ (value_item bytes) (omega arith) (omega arith)
    (fixed_puts _ _ _ bytes _ _ fixed long some laws.short (c.to_be_bytes.ensures ∙ ap (be 4) c.fixed_len.ensures) c.spell-eight.ensures.bytes c.in_ok-put.ensures.1 c.in_ok-put-2.ensures.1)
