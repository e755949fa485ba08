-- How a form lies in a row of numbers. Assumes nothing.
--
-- The first number says how many kinds there are. Then each kind has a block, as long as the room asks: how many ways, and
-- room for the ways, 16 numbers each. A way is `0 from to`, `1 kind least most`, or `2 count` with its places, three numbers
-- each, from its fifth number on: name, kind, and 1 if the place must be filled, else 0. What is not used is not looked at.
use Rattle.std.specs.Prelude.{ℕ, zero, suc, ◌+◌, ◌*◌, List, map, ◌==◌, slice_index}
use Rattle.std.specs.List.{range_with_len}
use Rattle.forms.specs.declared.room.Room.{Room}
use Rattle.forms.specs.declared.room.Room.TheVariants.{Plain, Both, Either}
use Rattle.forms.specs.declared.way.Place.{Place}
use Rattle.forms.specs.Form.{Form, Way, number, list, record_of}

-- For how many kinds a row has room, and for how many ways of each.
abbrev pub room_kinds : Room → ℕ
room_kinds Plain = 4
room_kinds Both = 16
room_kinds Either = 9

abbrev pub room_ways : Room → ℕ
room_ways Plain = 3
room_ways Both = 9
room_ways Either = 6

-- How many numbers a kind has, and a row.
abbrev pub block_length : Room → ℕ
block_length room = 1 + 16 * room_ways room

abbrev pub row_length : Room → ℕ
row_length room = 1 + room_kinds room * block_length room

-- Where a kind begins, a way of a kind, and a place of a way that begins at `at`.
unfoldable pub kind_start : Room → ℕ → ℕ
kind_start room k = 1 + k * block_length room

unfoldable pub way_start : Room → ℕ → ℕ → ℕ
way_start room k w = kind_start room k + (1 + 16 * w)

abbrev pub place_start : ℕ → ℕ → ℕ
place_start at i = at + (4 + 3 * i)

-- How many kinds there are, and how many ways a kind has.
abbrev pub kinds_count : List ℕ → ℕ
kinds_count row = slice_index row 0

abbrev pub ways_count : Room → List ℕ → ℕ → ℕ
ways_count room row k = slice_index row (kind_start room k)

-- The first n values of a function, in order.
unfoldable pub listed : {X : Type 0} → (ℕ → X) → ℕ → List X
listed f n = map f (range_with_len 0 n)

-- Place i of the way that begins at `at`.
abbrev pub name_in : List ℕ → ℕ → ℕ → ℕ
name_in row at i = slice_index row (place_start at i)

abbrev pub kind_in : List ℕ → ℕ → ℕ → ℕ
kind_in row at i = slice_index row (place_start at i + 1)

abbrev pub mark_in : List ℕ → ℕ → ℕ → ℕ
mark_in row at i = slice_index row (place_start at i + 2)

unfoldable pub place_in : List ℕ → ℕ → ℕ → Place
place_in row at i =
    record { name = name_in row at i; kind = kind_in row at i; must = (mark_in row at i == 1) }

-- The place that three numbers say.
abbrev pub place_by : List ℕ → Place
place_by numbers = record { name = slice_index numbers 0; kind = slice_index numbers 1; must = (slice_index numbers 2 == 1) }

-- The way that begins at `at`, by its first number.
unfoldable pub way_by : ℕ → List ℕ → ℕ → Way
way_by zero row at = number (slice_index row (at + 1)) (slice_index row (at + 2))
way_by (suc zero) row at = list (slice_index row (at + 1)) (slice_index row (at + 2)) (slice_index row (at + 3))
way_by (suc (suc t)) row at = record_of (listed (place_in row at) (slice_index row (at + 1)))

abbrev pub way_from : List ℕ → ℕ → Way
way_from row at = way_by (slice_index row at) row at

-- Way w of kind k, the ways of kind k, and the form.
unfoldable pub way_in : Room → List ℕ → ℕ → ℕ → Way
way_in room row k w = way_from row (way_start room k w)

unfoldable pub ways_in : Room → List ℕ → ℕ → List Way
ways_in room row k = listed (way_in room row k) (ways_count room row k)

unfoldable pub form_in : Room → List ℕ → Form
form_in room row = listed (ways_in room row) (kinds_count row)
