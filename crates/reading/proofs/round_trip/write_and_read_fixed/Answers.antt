use Rattle.std.proofs.Common.{drop}
use Rattle.ttlv.specs.Kinds.{value_item}
use Rattle.reading.proofs.Tripping.{item_ahead, put_whole, put_short, fixed_back, never}
use Rattle.reading.proofs.round_trip.write_and_read_fixed.Goals as goal

pub returns-in_err-read : goal.returns-in_err-read
returns-in_err-read g c =
    let store = g.S.Sink.store in
    let fixed = g.V.FixedLengthTtlvType in
    let spelt = g.V.SpeltTtlvType in
    let met = g.met.V.FixedLengthTtlvType in
    let laws = g.met.V.SpeltTtlvType in
    let v = c.args.v.now in
    let bytes = g.V.SerializableTtlvType.value v in
    let old = store c.args.dst.now in
    let new = store c.write_fixed.new.dst in
    let ahead = drop c.new.result.at (store c.new.result.sink.now).memory.held in
    let w = c.in_ok-write_fixed.ensures in
    let p = put_whole bytes old new w.writes in
    let a = item_ahead old new ahead (value_item bytes) c.count-at.result c.count-at.ensures p.after c.new.ensures in
    absurd (never v c.in_err-read.field-0.0 (fixed_back spelt.spelt v spelt.typed bytes ahead _ fixed.fixed _ laws.only laws.all (met.long v) (put_short bytes old new p) w.back a c.in_err-read.ensures))
