-- The form that a view shows, the way, and what is still to come of a kind's ways and of a way's places. Assumes nothing.
use Rattle.std.specs.Prelude.{List, map}
use Rattle.forms.specs.declared.view.FormView.{FormView}
use Rattle.forms.specs.declared.view.WayView.{WayView}
use Rattle.forms.specs.declared.view.Ways.{Ways}
use Rattle.forms.specs.declared.view.Places.{Places}
use Rattle.forms.specs.declared.way.Place.{Place}
use Rattle.forms.specs.Form.{Form, Way}
use Rattle.forms.specs.Layout.{form_in, way_from, place_by}

abbrev pub form_of : FormView → Form
form_of v = form_in v.room v.row.now

abbrev pub way_of : WayView → Way
way_of v = way_from v.numbers.now 0

abbrev pub ways_left : Ways → List Way
ways_left ws = map (λ numbers. way_from numbers 0) ws.left.now

abbrev pub places_left : Places → List Place
places_left ps = map place_by ps.left.now
