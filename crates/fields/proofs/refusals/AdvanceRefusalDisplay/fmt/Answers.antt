use Rattle.std.proofs.Common.{◌≡◌, ◌++◌, codes, refl, subst}
use borrow.Enum.Total.{values_d}
use Rattle.std.specs.Fmt.{HasWritten}
use Rattle.fields.specs.contracts.refusals.AdvanceRefusal as row
use Rattle.fields.specs.declared.field_type.FieldType.TheVariants.{Tag}
use Rattle.fields.specs.declared.refusals.AdvanceRefusal.{AdvanceRefusal}
use Rattle.fields.specs.declared.refusals.AdvanceRefusal.TheVariants.{UnexpectedTtlvField}
use Rattle.fields.specs.Types.{field_name}
use Rattle.fields.specs.Refusals.{advance_text}
use Rattle.fields.proofs.refusals.AdvanceRefusalDisplay.fmt.Goals as goal

only : (e : AdvanceRefusal) → codes "refused 9: " ++ (field_name (values_d row.enum 0 (Tag, (Tag, tt)) e).1.0 ++ (codes " came where " ++ (field_name (values_d row.enum 0 (Tag, (Tag, tt)) e).0 ++ codes " was expected"))) ≡ advance_text e
only (UnexpectedTtlvField expected actual) = refl

pub returns-clause-writes : goal.returns-clause-writes
returns-clause-writes g c = λ p q. subst (λ t. HasWritten g.W.Write.write_str_gives c.args.f.now t c.write.new.self) (only c.args.self.now) (c.write.ensures.writes p q)
