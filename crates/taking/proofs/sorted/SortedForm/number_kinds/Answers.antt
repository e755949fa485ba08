use Rattle.std.proofs.Common.{arith}
use Rattle.papers.specs.declared.shape.Shape.TheVariants.{Number}
use Rattle.taking.specs.Sorted.{sorted_of, shaped_of}
use Rattle.taking.proofs.Folding.{number_kinds}
use Rattle.taking.proofs.sorted.SortedForm.number_kinds.Goals as goal

pub returns : goal.returns
returns c =
    let s = c.args.self.now in
    omega (arith, c.kinds_seen.ensures, number_kinds (sorted_of s) (shaped_of Number s) (s.sorted Number) c.args.number)
