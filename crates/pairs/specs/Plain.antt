-- A form in the room in which forms are lent. Assumes nothing.
use Rattle.std.specs.Prelude.{Bool, true, false}
use Rattle.forms.specs.declared.room.Room.{Room}
use Rattle.forms.specs.declared.room.Room.TheVariants.{Plain, Both, Either}

abbrev pub is_plain : Room → Bool
is_plain Plain = true
is_plain Both = false
is_plain Either = false
