use Rattle.std.proofs.Common.{◌≡◌, ◌-◌, min, false, leb, length, take, refl, arith}
use Rattle.std.proofs.lemmas.Result.{err_from_is_err_and}
use Rattle.std.proofs.lemmas.Bool.{lt-leb}
use Rattle.reading.specs.Stages.{told_length}
use Rattle.reading.proofs.Parted.{bytes_refused, bytes_whole}
use Rattle.reading.proofs.Staged.{length_refused, lengthed, no_place, value_refused, padding_refused, value_whole, reads_value}
use Rattle.reading.proofs.Back.{reads_back, placed}
use Rattle.reading.proofs.read.read_value.Goals as goal

pub returns-in_err-len : goal.returns-in_err-len
returns-in_err-len g c =
    let p = err_from_is_err_and c.from_residual.result c.from_residual.ensures.1 in
    let old = g.R.Source.ahead c.args.src.now in
    let new = g.R.Source.ahead c.read_value_length.new.src in
    let scratch = c.args.scratch.now in
    record {
      reads = rw (p.1, p.2) (reads_value c.args.kind old new scratch scratch _ 0
          (length_refused (told_length old) c.args.kind old new c.in_err-len.field-0.0 (leb (told_length old) (length scratch)) c.in_err-len.ensures) refl);
      law = reads_back;
    }

pub returns-then-len-scratch : goal.returns-then-len-scratch
returns-then-len-scratch g c =
    let old = g.R.Source.ahead c.args.src.now in
    let new = g.R.Source.ahead c.read_value_length.new.src in
    let scratch = c.args.scratch.now in
    let l = lengthed c.args.kind old new c.in_ok-len.len c.in_ok-len.ensures in
    let h : leb (told_length old) (length scratch) ≡ false = lt-leb (told_length old) (length scratch) (omega (arith, l.told)) in
    record {
      reads = reads_value c.args.kind old new scratch scratch _ 0 (no_place (told_length old) c.args.kind old new c.in_ok-len.len (leb (told_length old) (length scratch)) l h) refl;
      law = reads_back;
    }

pub returns-in_err-read_value_bytes : goal.returns-in_err-read_value_bytes
returns-in_err-read_value_bytes g c =
    let p = err_from_is_err_and c.from_residual-in_err-read_value_bytes.result c.from_residual-in_err-read_value_bytes.ensures.1 in
    let n = c.in_ok-len.len in
    let old = g.R.Source.ahead c.args.src.now in
    let mid = g.R.Source.ahead c.read_value_length.new.src in
    let new = g.R.Source.ahead c.read_value_bytes.new.src in
    let scratch = c.args.scratch.now in
    let place = placed c.args.kind old mid scratch n c.in_ok-len.ensures (omega arith) in
    record {
      reads = rw (p.1, p.2) (reads_value c.args.kind old new scratch _ _ (min n (length mid))
          (value_refused (told_length old) (tt {0}) c.args.kind old mid new n c.in_err-read_value_bytes.field-0.0 (leb (told_length old) (length scratch)) place.told place.holds
          (bytes_refused (tt {0}) (tt {0}) c.args.kind (length (take (n - 0) scratch)) n mid new c.in_err-read_value_bytes.field-0.0 place.part c.in_err-read_value_bytes.ensures.reads))
          (place.filled c.read_value_bytes.new.value c.in_err-read_value_bytes.ensures.filled));
      law = reads_back;
    }

pub returns-in_err-pass_padding : goal.returns-in_err-pass_padding
returns-in_err-pass_padding g c =
    let p = err_from_is_err_and c.from_residual-in_err-pass_padding.result c.from_residual-in_err-pass_padding.ensures.1 in
    let n = c.in_ok-len.len in
    let old = g.R.Source.ahead c.args.src.now in
    let mid = g.R.Source.ahead c.read_value_length.new.src in
    let next = g.R.Source.ahead c.read_value_bytes.new.src in
    let new = g.R.Source.ahead c.pass_padding.new.src in
    let scratch = c.args.scratch.now in
    let place = placed c.args.kind old mid scratch n c.in_ok-len.ensures (omega arith) in
    record {
      reads = rw (p.1, p.2) (reads_value c.args.kind old new scratch _ _ (min n (length mid))
          (padding_refused (told_length old) c.args.kind old mid next new n c.in_err-pass_padding.field-0.0 (leb (told_length old) (length scratch)) place.told place.holds
          (bytes_whole tt c.in_ok-read_value_bytes.field-0 c.args.kind (length (take (n - 0) scratch)) n mid next place.part c.in_ok-read_value_bytes.ensures.reads) c.in_err-pass_padding.ensures)
          (place.filled c.read_value_bytes.new.value c.in_ok-read_value_bytes.ensures.filled));
      law = reads_back;
    }

pub returns : goal.returns
returns g c =
    let n = c.in_ok-len.len in
    let old = g.R.Source.ahead c.args.src.now in
    let mid = g.R.Source.ahead c.read_value_length.new.src in
    let next = g.R.Source.ahead c.read_value_bytes.new.src in
    let new = g.R.Source.ahead c.pass_padding.new.src in
    let scratch = c.args.scratch.now in
    let place = placed c.args.kind old mid scratch n c.in_ok-len.ensures (omega arith) in
    record {
      reads = reads_value c.args.kind old new scratch _ _ (min n (length mid))
          (value_whole (told_length old) n c.args.kind old mid next new n (leb (told_length old) (length scratch)) place.told place.holds
          (bytes_whole tt c.in_ok-read_value_bytes.field-0 c.args.kind (length (take (n - 0) scratch)) n mid next place.part c.in_ok-read_value_bytes.ensures.reads) c.in_ok-pass_padding.ensures place.told.told)
          (place.filled c.read_value_bytes.new.value c.in_ok-read_value_bytes.ensures.filled);
      law = reads_back;
    }
