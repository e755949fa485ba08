-- How many kinds and ways any form has at most.
use Rattle.std.proofs.Common.{ℕ, ◌<◌, ◌≤◌, length, arith}
use Rattle.forms.specs.declared.room.Room.{Room}
use Rattle.forms.specs.declared.room.Room.TheVariants.{Plain, Both, Either}
use Rattle.forms.specs.declared.view.FormView.{FormView}
use Rattle.forms.specs.Form.{ways_at}
use Rattle.forms.specs.Layout.{room_kinds, room_ways}
use Rattle.forms.specs.View.{form_of}
use Rattle.forms.proofs.Views.{view_bounded}

room_few : (room : Room) → (room_kinds room ≤ 16) × (room_ways room ≤ 9)
room_few Plain = omega arith
room_few Both = omega arith
room_few Either = omega arith

pub kinds_few : (v : FormView) → length (form_of v) ≤ 16
kinds_few v = omega (arith, (view_bounded v).few, room_few v.room)

pub ways_few : (v : FormView) (k : ℕ) → k < length (form_of v) → length (ways_at (form_of v) k) ≤ 9
ways_few v k l = omega (arith, (view_bounded v).few_ways k l, room_few v.room)
