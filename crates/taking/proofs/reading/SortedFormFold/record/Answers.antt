use Rattle.std.proofs.Common.{arith}
use Rattle.papers.specs.declared.shape.Shape.TheVariants.{Record}
use Rattle.taking.specs.Sorted.{sorted_of, shaped_of}
use Rattle.taking.proofs.Folding.{record_over}
use Rattle.taking.proofs.reading.SortedFormFold.record.Goals as goal

pub returns : goal.returns
returns c = omega (arith, c.kinds_seen.ensures, record_over (sorted_of c.args.self.now) (shaped_of Record c.args.self.now) c.args.so_far.now.ways)
