use Rattle.forms.proofs.Views.{view_closed}
use Rattle.taking.specs.Sorted.{sorted_of}
use Rattle.taking.proofs.Folding.{list_first}
use Rattle.taking.proofs.reading.SortedFormFold.no_papers.Goals as goal

pub returns : goal.returns
returns c = list_first (sorted_of c.args.self.now) c.first_kinds.result (view_closed c.args.self.now.form) (cc)
