use Rattle.forms.proofs.Proper.{form_proper, form_closed, form_bounded}
use Rattle.forms.proofs.view.FormView.new.Goals as goal

pub returns-clause-proper : goal.returns-clause-proper
returns-clause-proper c = form_proper c.args.room c.args.row.now c.requires

pub returns-clause-closed : goal.returns-clause-closed
returns-clause-closed c = form_closed c.args.room c.args.row.now c.requires

pub returns-clause-bounded : goal.returns-clause-bounded
returns-clause-bounded c = form_bounded c.args.room c.args.row.now c.requires
