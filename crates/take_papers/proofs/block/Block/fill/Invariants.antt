use Rattle.std.proofs.Common.{◌≡◌, ◌-◌, length}
use Rattle.take_papers.specs.Held.{GoesOn}
use Rattle.take_papers.proofs.block.Block.fill.Given as goal

abbrev pub invariant-loop-self : goal.invariant-loop-self
invariant-loop-self g l = (l.self.before ≡ 0) × GoesOn l.fn.self.bytes l.self.bytes

abbrev pub decreases-loop-self : goal.decreases-loop-self
decreases-loop-self g l = l.least - length l.self.bytes
