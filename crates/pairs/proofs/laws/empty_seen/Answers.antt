use Rattle.pairs.proofs.Deciding.{empty_seen}
use Rattle.pairs.proofs.laws.empty_seen.Goals as goal

pub returns : goal.returns
returns c = empty_seen
