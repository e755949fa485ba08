-- How many kinds and ways a form has in the room in which forms are lent.
use Rattle.std.proofs.Common.{◌≡◌, ℕ, ◌<◌, ◌≤◌, true, length, arith}
use Rattle.std.proofs.lemmas.Bool.{false≢true}
use Rattle.forms.specs.declared.room.Room.{Room}
use Rattle.forms.specs.declared.room.Room.TheVariants.{Plain, Both, Either}
use Rattle.forms.specs.declared.view.FormView.{FormView}
use Rattle.forms.specs.Form.{BoundedWay, ways_at, way_at}
use Rattle.forms.specs.Layout.{room_kinds, room_ways}
use Rattle.forms.specs.View.{form_of}
use Rattle.forms.proofs.Views.{view_bounded}
use Rattle.pairs.specs.Plain.{is_plain}

plain_room : (room : Room) → is_plain room ≡ true → (room_kinds room ≤ 4) × (room_ways room ≤ 3)
plain_room Plain e = omega arith
plain_room Both e = absurd (false≢true e)
plain_room Either e = absurd (false≢true e)

pub plain_kinds : (v : FormView) → is_plain v.room ≡ true → length (form_of v) ≤ 4
plain_kinds v e = omega (arith, (view_bounded v).few, plain_room v.room e)

pub plain_ways : (v : FormView) (k : ℕ) → is_plain v.room ≡ true → k < length (form_of v) → length (ways_at (form_of v) k) ≤ 3
plain_ways v k e l = omega (arith, (view_bounded v).few_ways k l, plain_room v.room e)

pub view_bounded_way : (v : FormView) (k w : ℕ) → k < length (form_of v) → w < length (ways_at (form_of v) k) → BoundedWay (way_at (form_of v) k w)
view_bounded_way v k w l m = (view_bounded v).each_way k w l m
