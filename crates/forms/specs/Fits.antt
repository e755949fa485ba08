-- Which rows are forms, and the place at fault in a row that is none. Assumes nothing.
use Rattle.std.specs.Prelude.{◌≡◌, ℕ, zero, suc, ◌-◌, ◌^◌, ◌<◌, ◌≤◌, Bool, true, false, cond, ◌&&◌, ◌||◌, ◌⊎◌, List, length, ◌==◌, nat_le, nat_lt, slice_index}
use Rattle.forms.specs.declared.room.Room.{Room}
use Rattle.forms.specs.declared.way.Place.{Place}
use Rattle.forms.specs.declared.way.Way.{Way as Shape}
use Rattle.forms.specs.declared.way.Way.TheVariants.{Number, List as ListOf, Record}
use Rattle.forms.specs.Form.{places_of, shape}
use Rattle.forms.specs.Layout.{room_kinds, room_ways, row_length, way_start, kinds_count, ways_count, name_in, kind_in, mark_in, way_from}

-- Whether a test holds of every number below n; and the first number below n of which it does not hold, or n.
unfoldable pub every : (ℕ → Bool) → ℕ → Bool
every p zero = true
every p (suc n) = every p n && p n

unfoldable pub first_failing : (ℕ → Bool) → ℕ → ℕ
first_failing p zero = 0
first_failing p (suc n) = cond (every p n) (cond (p n) (suc n) n) (first_failing p n)

-- A place's name is above the name of the place before it, if there is one.
abbrev pub name_above : List ℕ → ℕ → ℕ → Bool
name_above row at i = i == 0 || nat_lt (name_in row at (i - 1)) (name_in row at i)

-- Place i of the way that begins at `at`, in a form of n kinds: its mark is 0 or 1, its kind is there, and its name is small
-- enough and above the last.
unfoldable pub place_fits : ℕ → List ℕ → ℕ → ℕ → Bool
place_fits n row at i =
    nat_le (mark_in row at i) 1 && (nat_lt (kind_in row at i) n && (nat_lt (name_in row at i) (2 ^ 32) && name_above row at i))

-- The same limits of a place, by its three numbers, its name's order aside.
abbrev pub place_within : ℕ → List ℕ → Bool
place_within n numbers = nat_le (slice_index numbers 2) 1 && (nat_lt (slice_index numbers 1) n && nat_lt (slice_index numbers 0) (2 ^ 32))

-- The limits of a way in a form of n kinds, its places aside.
abbrev pub within_limits : ℕ → Shape → Bool
within_limits n (Number from to) = nat_lt from (2 ^ 32) && nat_lt to (2 ^ 32)
within_limits n (ListOf kind least most) = nat_lt kind n && (nat_le least 16 && nat_le most 16)
within_limits n (Record places) = nat_le places 4

-- The same limits, as orders.
abbrev pub KeepsTo : ℕ → Shape → Type 0
KeepsTo n (Number from to) = (from < 2 ^ 32) × (to < 2 ^ 32)
KeepsTo n (ListOf kind least most) = (kind < n) × (least ≤ 16) × (most ≤ 16)
KeepsTo n (Record places) = places ≤ 4

-- The limits of a place in a form of n kinds, as orders.
abbrev pub PlaceKeepsTo : ℕ → Place → Type 0
PlaceKeepsTo n p = (p.name < 2 ^ 32) × (p.kind < n)

-- The way that begins at `at`, in a form of n kinds: its tag is known, and it and its places keep to the limits.
unfoldable pub way_fits : ℕ → List ℕ → ℕ → Bool
way_fits n row at =
    nat_le (slice_index row at) 2
    && (within_limits n (shape (way_from row at)) && every (place_fits n row at) (length (places_of (way_from row at))))

unfoldable pub way_fits_in : Room → List ℕ → ℕ → ℕ → Bool
way_fits_in room row k w = way_fits (kinds_count row) row (way_start room k w)

-- Kind k: there is room for its ways, and each is one.
unfoldable pub kind_fits : Room → List ℕ → ℕ → Bool
kind_fits room row k = nat_le (ways_count room row k) (room_ways room) && every (way_fits_in room row k) (ways_count room row k)

-- The row is long enough, and has at least one kind and room for all.
abbrev pub count_fits : Room → List ℕ → Bool
count_fits room row = nat_le (row_length room) (length row) && (nat_le 1 (kinds_count row) && nat_le (kinds_count row) (room_kinds room))

-- The row is a form.
unfoldable pub form_fits : Room → List ℕ → Bool
form_fits room row = count_fits room row && every (kind_fits room row) (kinds_count row)

-- The place at fault in a row that is no form: the first kind at fault, or, if the row is too short or the count of its
-- kinds is out of bounds, the number of kinds that it should have room for.
unfoldable pub fault : Room → List ℕ → ℕ
fault room row = cond (count_fits room row) (first_failing (kind_fits room row) (kinds_count row)) (room_kinds room)

-- What that place tells: the row is too short or its count of kinds out of bounds; or kind k is at fault, and none before it.
abbrev pub FirstFault : Room → List ℕ → ℕ → Type 0
FirstFault room row k =
    ((count_fits room row ≡ false) × (k ≡ room_kinds room))
    ⊎ ((count_fits room row ≡ true) × (k < kinds_count row) × (kind_fits room row k ≡ false)
    × ((i : ℕ) → i < k → kind_fits room row i ≡ true))
