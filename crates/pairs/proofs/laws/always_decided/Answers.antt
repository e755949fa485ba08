use Rattle.pairs.proofs.Deciding.{always_decided}
use Rattle.pairs.proofs.laws.always_decided.Goals as goal

pub returns : goal.returns
returns c = always_decided
