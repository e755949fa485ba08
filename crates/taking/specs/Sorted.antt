-- The form that is sorted, and its ways of each shape. Assumes nothing.
use Rattle.std.specs.Prelude.{List}
use Rattle.papers.specs.declared.shape.Shape.{Shape}
use Rattle.forms.specs.Form.{Form}
use Rattle.forms.specs.View.{form_of}
use Rattle.taking.specs.declared.group.WayAt.{WayAt}
use Rattle.taking.specs.declared.sorted.SortedForm.{SortedForm}
use Rattle.taking.specs.Listing.{by_shape}

abbrev pub sorted_of : SortedForm → Form
sorted_of s = form_of s.form

abbrev pub shaped_of : Shape → SortedForm → List WayAt
shaped_of shape s = by_shape shape s.numbers s.lists s.records
