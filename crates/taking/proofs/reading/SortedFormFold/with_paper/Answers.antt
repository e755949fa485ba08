use Rattle.std.proofs.Common.{◌+◌, arith}
use Rattle.forms.proofs.Views.{view_closed}
use Rattle.taking.specs.Sorted.{sorted_of}
use Rattle.taking.proofs.Folding.{list_next}
use Rattle.taking.proofs.reading.SortedFormFold.with_paper.Goals as goal

pub returns : goal.returns
returns c count = list_next (sorted_of c.args.self.now) count (count + 1) c.args.papers c.args.paper _ (view_closed c.args.self.now.form) (omega arith) (cc)
