use Rattle.std.proofs.Common.{arith}
use Rattle.forms.proofs.Views.{view_closed}
use Rattle.taking.specs.Sorted.{sorted_of}
use Rattle.taking.proofs.Folding.{list_over}
use Rattle.taking.proofs.reading.SortedFormFold.list.Goals as goal

pub returns : goal.returns
returns c = omega (arith, c.list_kinds.ensures, list_over (sorted_of c.args.self.now) c.args.count c.args.papers (view_closed c.args.self.now.form))
