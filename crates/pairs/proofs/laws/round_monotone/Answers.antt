use Rattle.pairs.specs.Laws.{Passing}
use Rattle.pairs.proofs.Rounding.{round_monotone}
use Rattle.pairs.proofs.laws.round_monotone.Goals as goal

pub returns : goal.returns
returns c = λ f g p q. round_monotone f g (Passing p) (Passing q)
