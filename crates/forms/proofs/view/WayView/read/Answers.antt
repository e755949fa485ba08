use Rattle.std.proofs.Common.{sym, subst}
use Rattle.forms.specs.Fits.{KeepsTo}
use Rattle.forms.proofs.Views.{way_keeps}
use Rattle.forms.proofs.view.WayView.read.Goals as goal

pub returns-clause-limits : goal.returns-clause-limits
returns-clause-limits c = subst (KeepsTo 16) (sym c.way_of.ensures) (way_keeps c.args.self.now)
