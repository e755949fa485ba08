use Rattle.pairs.proofs.Deciding.{flattest_shown}
use Rattle.pairs.proofs.laws.flattest_shown.Goals as goal

pub returns : goal.returns
returns c = flattest_shown
