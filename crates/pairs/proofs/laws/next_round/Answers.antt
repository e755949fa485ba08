use Rattle.pairs.specs.Laws.{Passing}
use Rattle.pairs.proofs.Rounding.{next_round}
use Rattle.pairs.proofs.laws.next_round.Goals as goal

pub returns : goal.returns
returns c = λ f g r p q. next_round f g r (Passing p) (Passing q)
