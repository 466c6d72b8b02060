use Rattle.std.proofs.Common.{drop, sym, subst}
use Rattle.std.proofs.lemmas.Result.{err_from_is_err_and}
use Rattle.ttlv.specs.Kinds.{value_item, Legal}
use Rattle.ttlv.proofs.Twos.{extension_keeps_the_number}
use Rattle.fields.specs.Types.{type_byte}
use Rattle.reading.proofs.Tripping.{item_ahead, put_whole, put_short, came_back, trip_unwritten, trip_refused, trip_done}
use Rattle.reading.proofs.round_trip.write_and_read_back.Goals as goal

pub returns-in_err-len : goal.returns-in_err-len
returns-in_err-len g c =
    let q = err_from_is_err_and c.from_residual-in_err-len.result c.from_residual-in_err-len.ensures.1 in
    let store = g.S.Sink.store in
    let bytes = g.V.SerializableTtlvType.value c.args.v.now in
    let old = store c.args.dst.now in
    let new = store c.write_value.new.dst in
    let scratch = c.args.scratch.now in
    let ahead = drop c.new.result.at (store c.new.result.sink.now).memory.held in
    let w = c.in_ok-write_value.ensures in
    let p = put_whole bytes old new w.writes in
    let a = item_ahead old new ahead (value_item bytes) c.count-at.result c.count-at.ensures p.after c.new.ensures in
    record {
      number = extension_keeps_the_number;
      trip = rw (q.1, q.2) (trip_refused bytes old new scratch c.read_value.new.scratch c.in_err-len.field-0.0 p
          (came_back c.ttlv_type.result bytes ahead _ scratch c.read_value.new.scratch _ (subst (λ k. Legal (type_byte k) bytes) (sym c.ttlv_type.ensures) w.legal) (put_short bytes old new p) a c.in_err-len.ensures.reads));
    }

pub returns : goal.returns
returns g c =
    let store = g.S.Sink.store in
    let bytes = g.V.SerializableTtlvType.value c.args.v.now in
    let old = store c.args.dst.now in
    let new = store c.write_value.new.dst in
    let scratch = c.args.scratch.now in
    let ahead = drop c.new.result.at (store c.new.result.sink.now).memory.held in
    let w = c.in_ok-write_value.ensures in
    let p = put_whole bytes old new w.writes in
    let a = item_ahead old new ahead (value_item bytes) c.count-at.result c.count-at.ensures p.after c.new.ensures in
    record {
      number = extension_keeps_the_number;
      trip = trip_done bytes old new scratch c.read_value.new.scratch c.in_ok-len.len p
          (came_back c.ttlv_type.result bytes ahead _ scratch c.read_value.new.scratch _ (subst (λ k. Legal (type_byte k) bytes) (sym c.ttlv_type.ensures) w.legal) (put_short bytes old new p) a c.in_ok-len.ensures.reads);
    }

pub returns-in_err-write_value : goal.returns-in_err-write_value
returns-in_err-write_value g c =
    let q = err_from_is_err_and c.from_residual.result c.from_residual.ensures.1 in
    let store = g.S.Sink.store in
    record {
      number = extension_keeps_the_number;
      trip = rw (q.1, q.2) (trip_unwritten (g.V.SerializableTtlvType.value c.args.v.now) (store c.args.dst.now) (store c.write_value.new.dst) c.args.scratch.now c.in_err-write_value.field-0.0
          c.in_err-write_value.ensures.writes);
    }
