use Rattle.std.proofs.Common.{refl}
use Rattle.text.specs.Deciding.{textual}
use Rattle.values.specs.Legal.{good}
use Rattle.reading.specs.Stages.{stage}
use Rattle.worked.proofs.worked_examples_hold.Goals as goal

pub returns : goal.returns
unfolding textual good stage
returns c = record {
  all_stand = ((refl, refl), ((refl, refl), ((refl, refl), ((refl, refl), ((refl, refl), ((refl, refl), ((refl, refl), ((refl, refl), tt))))))));
  padding_0 = refl;
  padding_1 = refl;
  padding_8 = refl;
  padding_10 = refl;
  tag_bytes = refl;
  length_bytes = refl;
  length_read = refl;
  big_80 = refl;
  big_0080 = refl;
  big_none = refl;
  boolean_2 = refl;
  boolean_4 = refl;
  made_2 = refl;
  made_4 = refl;
  type_0 = refl;
  type_1 = refl;
  type_9 = refl;
  type_10 = refl;
  type_11 = refl;
}
