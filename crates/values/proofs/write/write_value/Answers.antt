use Rattle.std.proofs.Common.{length, ap, ◌∙◌, arith}
use Rattle.ttlv.specs.Numbers.{be, padding}
use Rattle.ttlv.specs.Kinds.{value_item}
use Rattle.values.proofs.Putting.{all_written, three_puts, length_value_item, fronts}
use Rattle.values.proofs.write.write_value.Goals as goal

pub returns-clause-writes : goal.returns-clause-writes
returns-clause-writes g c =
    let bytes = g.V.SerializableTtlvType.value c.args.v.now in
    let l = length_value_item bytes in
    let n = c.value_len-len.ensures.len in
    let p = c.padding_of-pad.ensures ∙ ap padding n in
    all_written _ _ (value_item bytes) (omega arith) (omega arith)
    (three_puts _ _ _ _ bytes _ _ (c.to_be_bytes.ensures ∙ ap (be 4) n) (fronts c.padding_of-pad.result (length bytes) 0 p) c.in_ok-put.ensures.1 c.in_ok-put_value.ensures.1 c.in_ok-put-2.ensures.1)
