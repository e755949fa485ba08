use Rattle.pairs.specs.Laws.{Passing}
use Rattle.pairs.proofs.Rounding.{dominated}
use Rattle.pairs.proofs.laws.dominated.Goals as goal

pub returns : goal.returns
returns c = λ f g p q. dominated f g (Passing p) (Passing q)
