use Rattle.pairs.specs.Laws.{Passing}
use Rattle.pairs.proofs.Rounding.{adds_nothing}
use Rattle.pairs.proofs.laws.adds_nothing.Goals as goal

pub returns : goal.returns
returns c = λ f g p. adds_nothing f g (Passing p)
