use Rattle.std.proofs.Common.{arith}
use Rattle.papers.specs.declared.shape.Shape.TheVariants.{List}
use Rattle.taking.specs.Sorted.{sorted_of, shaped_of}
use Rattle.taking.proofs.Folding.{list_kinds_seen}
use Rattle.taking.proofs.sorted.SortedForm.list_kinds.Goals as goal

pub returns : goal.returns
returns c =
    let s = c.args.self.now in
    omega (arith, c.kinds_seen.ensures, list_kinds_seen (sorted_of s) (shaped_of List s) (s.sorted List) c.args.count c.args.kinds)
