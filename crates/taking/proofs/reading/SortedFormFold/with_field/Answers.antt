use Rattle.std.proofs.Common.{arith}
use Rattle.papers.specs.declared.shape.Shape.TheVariants.{Record}
use Rattle.taking.specs.Sorted.{sorted_of, shaped_of}
use Rattle.taking.proofs.Folding.{record_next}
use Rattle.taking.proofs.reading.SortedFormFold.with_field.Goals as goal

pub returns : goal.returns
returns c d fs same =
    record_next (sorted_of c.args.self.now) (shaped_of Record c.args.self.now) _ c.args.name c.args.so_far.now.ways c.advance.new.self.ways c.advance.ensures d fs (omega (arith, same))
