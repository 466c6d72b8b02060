use Rattle.fields.specs.Types.{type_byte}
use Rattle.values.proofs.Judging.{legal_all}
use Rattle.values.proofs.number.AnySerializableTtlvType.value_len.Goals as goal

pub returns-clause-legal : goal.returns-clause-legal
returns-clause-legal g c =
    let number = g.V.NumberTtlvType in
    let laws = g.met.V.NumberTtlvType in
    legal_all (type_byte number.TYPE) number.WIDTH (number.written c.args.self.now) laws.only laws.all (laws.long c.args.self.now)
