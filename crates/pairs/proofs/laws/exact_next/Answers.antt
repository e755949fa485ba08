use Rattle.pairs.specs.Laws.{Passing}
use Rattle.pairs.proofs.Rounding.{exact_next}
use Rattle.pairs.proofs.laws.exact_next.Goals as goal

pub returns : goal.returns
returns c = λ f g r p. exact_next f g r (Passing p)
