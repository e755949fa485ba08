use Rattle.papers.specs.declared.shape.Shape.TheVariants.{Record}
use Rattle.taking.specs.Sorted.{sorted_of, shaped_of}
use Rattle.taking.proofs.Folding.{record_first}
use Rattle.taking.proofs.reading.SortedFormFold.no_fields.Goals as goal

pub returns : goal.returns
returns c = record_first (sorted_of c.args.self.now) (shaped_of Record c.args.self.now) c.new.result.ways (c.args.self.now.sorted Record) c.new.ensures
