use Rattle.std.proofs.Common.{arith}
use Rattle.forms.proofs.asked.kind_of.Goals as goal

pub invariant_of-result : goal.invariant_of-result
invariant_of-result c = record { there = omega arith }
