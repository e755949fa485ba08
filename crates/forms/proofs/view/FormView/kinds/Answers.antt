use Rattle.std.proofs.Common.{◌≡◌, arith}
use Rattle.forms.specs.Layout.{kinds_count}
use Rattle.forms.proofs.Parts.{kinds_of_form}
use Rattle.forms.proofs.Views.{view_counted}
use Rattle.forms.proofs.view.FormView.kinds.Goals as goal

pub returns : goal.returns
returns c =
    let v = c.args.self.now in
    let h = view_counted v in
    let e : c.kinds.result ≡ kinds_count v.row.now = cc in
    record { is = omega (arith, kinds_of_form v.room v.row.now); some = omega arith; few = omega arith }
