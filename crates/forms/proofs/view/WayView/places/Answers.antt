use Rattle.std.proofs.Common.{◌≡◌, length, arith}
use Rattle.forms.specs.Form.{places_of}
use Rattle.forms.specs.View.{way_of}
use Rattle.forms.proofs.Views.{places_cut}
use Rattle.forms.proofs.view.WayView.places.Goals as goal

pub returns : goal.returns
returns c =
    let v = c.args.self.now in
    let e : c.places-2.result ≡ length (places_of (way_of v)) = cc in
    record { is = places_cut v _ _ (omega arith) c.places.ensures.room c.places.ensures.places }
