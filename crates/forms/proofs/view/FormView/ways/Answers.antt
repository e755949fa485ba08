use Rattle.std.proofs.Common.{◌≡◌, length, map, arith}
use Rattle.std.proofs.lemmas.List.{length-map}
use Rattle.forms.specs.Form.{ways_at}
use Rattle.forms.specs.Layout.{way_from}
use Rattle.forms.specs.View.{form_of}
use Rattle.forms.proofs.Views.{view_kind}
use Rattle.forms.proofs.view.FormView.ways.Goals as goal

pub returns-clause-few : goal.returns-clause-few
returns-clause-few c =
    let v = c.args.self.now in
    let h = view_kind v c.args.kind c.requires in
    let left = c.ways_of.result.left.now in
    let same : length (map (λ numbers. way_from numbers 0) left) ≡ length (ways_at (form_of v) c.args.kind) = cc c.ways_of.ensures.is in
    omega (arith, length-map left (λ numbers. way_from numbers 0))
