use Rattle.std.proofs.Common.{refl}
use Rattle.pairs.specs.Tables.{found_at}
use Rattle.pairs.proofs.Families.{family_covers}
use Rattle.pairs.proofs.table.Table.covers.Goals as goal

pub returns : goal.returns
returns c = family_covers (found_at c.args.self.now.found c.args.pair.kind).sets c.args.pair.set _ c.args.pair.set_there refl
