use Rattle.std.proofs.Common.{refl}
use Rattle.hexadecimal.proofs.Spelled.{spells_longest_run}
use Rattle.hexadecimal.proofs.hex_source.HexSource.new.Goals as goal

pub returns : goal.returns
returns g c = record { holds = refl; begins = refl; law = spells_longest_run }
