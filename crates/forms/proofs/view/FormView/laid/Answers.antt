use Rattle.forms.proofs.Views.{view_counted}
use Rattle.forms.proofs.view.FormView.laid.Goals as goal

pub invariant_of-result : goal.invariant_of-result
invariant_of-result c = let h = view_counted c.args.self.now in record { long = h.long; some = h.some; few = h.few }
