-- What a row that is a form keeps to.
use Rattle.std.proofs.Common.{◌≡◌, ℕ, ◌^◌, ◌<◌, ◌≤◌, Bool, true, false, ◌&&◌, ltb, leb, List, length, get_or, sym, refl, ap, ◌∙◌, subst, inl, inr, arith}
use Rattle.std.proofs.lemmas.Bool.{cases_Bool, both_ways, and_cases, cond-true, cond-false, and_parts, and_from, leb-true, ltb-true}
use Rattle.std.proofs.lemmas.Bool.Decides.{nat_tests}
use Rattle.forms.specs.declared.room.Room.{Room}
use Rattle.forms.specs.declared.way.Way.{Way as Shape}
use Rattle.forms.specs.declared.way.Way.TheVariants.{Number, List as ListOf, Record}
use Rattle.forms.specs.Form.{Way, number, list, record_of, shape, no_place, ways_at, way_at, places_of, place_at}
use Rattle.forms.specs.Fits.{KeepsTo, fault, FirstFault, count_fits, form_fits, first_failing, kind_fits, way_fits_in, way_fits, within_limits, every, place_fits, name_above}
use Rattle.forms.specs.Layout.{room_kinds, room_ways, row_length, kinds_count, ways_count, way_from, way_start, form_in, way_in, place_in, name_in, kind_in, mark_in}
use Rattle.forms.proofs.Every.{every_at, every_from, every_off, first_failing_here, first_failing_fails}
use Rattle.forms.proofs.Parts.{kinds_of_form, ways_count_of_form, way_of_form, place_of_way}

-- The row is long enough, and there are some kinds and not too many.
pub record Counted (room : Room) (row : List ℕ) : Type 0 where
  pub long : row_length room ≤ length row
  pub some : 1 ≤ kinds_count row
  pub few : kinds_count row ≤ room_kinds room

pub counted : (room : Room) (row : List ℕ) → form_fits room row ≡ true → Counted room row
unfolding form_fits
counted room row h =
    let c = (and_parts (count_fits room row) (every (kind_fits room row) (kinds_count row)) h).0 in
    record { long = grind (arith, nat_tests); some = grind (arith, nat_tests); few = grind (arith, nat_tests) }

pub kind_fitting : (room : Room) (row : List ℕ) (k : ℕ) → form_fits room row ≡ true → k < kinds_count row → kind_fits room row k ≡ true
unfolding form_fits
kind_fitting room row k h l =
    let p = kind_fits room row in
    every_at p (kinds_count row) k (and_parts (count_fits room row) (every p (kinds_count row)) h).1 l

-- There is room for the ways of a kind, and each is one.
kind_parts : (room : Room) (row : List ℕ) (k : ℕ) → kind_fits room row k ≡ true →
    (ways_count room row k ≤ room_ways room) × (every (way_fits_in room row k) (ways_count room row k) ≡ true)
unfolding kind_fits
kind_parts room row k h =
    let n = ways_count room row k in
    let parts = and_parts (leb n (room_ways room)) (every (way_fits_in room row k) n) h in
    (leb-true n (room_ways room) parts.0, parts.1)

pub way_fitting : (room : Room) (row : List ℕ) (k w : ℕ) → kind_fits room row k ≡ true → w < ways_count room row k →
    way_fits (kinds_count row) row (way_start room k w) ≡ true
unfolding way_fits_in
way_fitting room row k w h l = every_at (way_fits_in room row k) (ways_count room row k) w (kind_parts room row k h).1 l

-- A way keeps to the limits, and each of its places is one.
pub way_parts : (n : ℕ) (row : List ℕ) (at : ℕ) → way_fits n row at ≡ true →
    (within_limits n (shape (way_from row at)) ≡ true)
    × (every (place_fits n row at) (length (places_of (way_from row at))) ≡ true)
unfolding way_fits
way_parts n row at h =
    let limits = within_limits n (shape (way_from row at)) in
    let places = every (place_fits n row at) (length (places_of (way_from row at))) in
    and_parts limits places (and_parts (leb (get_or row at 0) 2) (limits && places) h).1

pub place_fitting : (n : ℕ) (row : List ℕ) (at i : ℕ) → way_fits n row at ≡ true → i < length (places_of (way_from row at)) →
    place_fits n row at i ≡ true
place_fitting n row at i h l = every_at (place_fits n row at) (length (places_of (way_from row at))) i (way_parts n row at h).1 l

-- A place's kind is there, and its name is small enough and above the last.
pub record Placed (n : ℕ) (row : List ℕ) (at i : ℕ) : Type 0 where
  pub kind : kind_in row at i < n
  pub name : name_in row at i < 2 ^ 32
  pub above : name_above row at i ≡ true

pub placed : (n : ℕ) (row : List ℕ) (at i : ℕ) → place_fits n row at i ≡ true → Placed n row at i
unfolding place_fits
placed n row at i h =
    let a = (and_parts (leb (mark_in row at i) 1) (ltb (kind_in row at i) n && (ltb (name_in row at i) (2 ^ 32) && name_above row at i)) h).1 in
    let b = and_parts (ltb (kind_in row at i) n) (ltb (name_in row at i) (2 ^ 32) && name_above row at i) a in
    let c = and_parts (ltb (name_in row at i) (2 ^ 32)) (name_above row at i) b.1 in
    record {
      kind = ltb-true (kind_in row at i) n b.0;
      name = ltb-true (name_in row at i) (2 ^ 32) c.0;
      above = c.1;
    }

-- What a way keeps to, in orders.
pub keeps_to : (n : ℕ) (s : Shape) → within_limits n s ≡ true → KeepsTo n s
keeps_to n (Number from to) h = (grind (arith, nat_tests), grind (arith, nat_tests))
keeps_to n (ListOf kind least most) h = (grind (arith, nat_tests), grind (arith, nat_tests), grind (arith, nat_tests))
keeps_to n (Record places) h = grind (arith, nat_tests)

pub places_few : (n : ℕ) (w : Way) → KeepsTo n (shape w) → length (places_of w) ≤ 4
places_few n (number a b) h = omega arith
places_few n (list k a b) h = omega arith
places_few n (record_of ps) h = h

-- A kind of a form, found in the row.
pub record KindThere (room : Room) (row : List ℕ) (k : ℕ) : Type 0 where
  pub there : k < kinds_count row
  pub room_for : k < room_kinds room
  pub long : row_length room ≤ length row
  pub ways : length (ways_at (form_in room row) k) ≡ ways_count room row k
  pub few : ways_count room row k ≤ room_ways room

pub kind_there : (room : Room) (row : List ℕ) (k : ℕ) → form_fits room row ≡ true → k < length (form_in room row) →
    KindThere room row k
kind_there room row k h l =
    let c = counted room row h in
    let there : k < kinds_count row = omega (arith, kinds_of_form room row) in
    record {
      there = there;
      room_for = omega arith;
      long = c.long;
      ways = ways_count_of_form room row k there;
      few = (kind_parts room row k (kind_fitting room row k h there)).0;
    }

-- A way of a form, found in the row.
pub record WayThere (room : Room) (row : List ℕ) (k w : ℕ) : Type 0 where
  pub room_for : w < room_ways room
  pub is : way_at (form_in room row) k w ≡ way_from row (way_start room k w)
  pub fits : way_fits (length (form_in room row)) row (way_start room k w) ≡ true
  pub keeps : KeepsTo (length (form_in room row)) (shape (way_at (form_in room row) k w))

pub way_there : (room : Room) (row : List ℕ) (k w : ℕ) → form_fits room row ≡ true → k < length (form_in room row) →
    w < length (ways_at (form_in room row) k) → WayThere room row k w
unfolding way_in
way_there room row k w h l m =
    let c = kind_there room row k h l in
    let there : w < ways_count room row k = omega arith in
    let room_for : w < room_ways room = omega arith in
    let n = length (form_in room row) in
    let at = way_start room k w in
    let is = way_of_form room row k w c.there there in
    let fits : way_fits n row at ≡ true =
    rw kinds_of_form (way_fitting room row k w (kind_fitting room row k h c.there) there) in
    record {
      room_for = room_for;
      is = is;
      fits = fits;
      keeps = rw is (keeps_to n (shape (way_from row at)) (way_parts n row at fits).0);
    }

-- A place of a form, found in the row.
pub record PlaceThere (room : Room) (row : List ℕ) (k w i : ℕ) : Type 0 where
  pub few : i < 4
  pub is : place_at (form_in room row) k w i ≡ place_in row (way_start room k w) i
  pub fits : Placed (length (form_in room row)) row (way_start room k w) i

pub place_there : (room : Room) (row : List ℕ) (k w i : ℕ) → form_fits room row ≡ true → k < length (form_in room row) →
    w < length (ways_at (form_in room row) k) → i < length (places_of (way_at (form_in room row) k w)) → PlaceThere room row k w i
place_there room row k w i h l m j =
    let c = way_there room row k w h l m in
    let n = length (form_in room row) in
    let at = way_start room k w in
    let i-there : i < length (places_of (way_from row at)) = rw c.is at j in
    record {
      few = omega (arith, places_few n (way_at (form_in room row) k w) c.keeps);
      is = ap (λ x. get_or (places_of x) i no_place) c.is ∙ place_of_way (get_or row at 0) row at i no_place i-there;
      fits = placed n row at i (place_fitting n row at i c.fits i-there);
    }

-- A part that fails where another passes.
and_false : (x y : Bool) → x ≡ true → (x && y) ≡ false → y ≡ false
and_false x y e h =
    elim (and_cases x y h) [ inl f ↦ absurd (both_ways x f e) | inr f ↦ f ]

-- The place told of a row that is no form is the first at fault.
pub fault_first : (room : Room) (row : List ℕ) → form_fits room row ≡ false → FirstFault room row (fault room row)
unfolding form_fits fault
fault_first room row h =
    let n = kinds_count row in
    let p = kind_fits room row in
    elim (cases_Bool (count_fits room row)) [
      | inl e ↦
          let f = first_failing_fails p n (and_false (count_fits room row) (every p n) e h) in
          subst (FirstFault room row) (sym (cond-true (count_fits room row) (first_failing p n) (room_kinds room) e))
          (inr (e, f.0, f.1, λ i l. every_at p (first_failing p n) i f.2 l))
      | inr e ↦
          subst (FirstFault room row) (sym (cond-false (count_fits room row) (first_failing p n) (room_kinds room) e))
          (inl (e, refl))
    ]

-- What is told of a row that is no form, where the place is the one at fault.
told : (room : Room) (row : List ℕ) (p : ℕ) → form_fits room row ≡ false → p ≡ fault room row →
    (form_fits room row ≡ false) × (p ≡ fault room row) × FirstFault room row p
told room row p h e = (h, e, subst (FirstFault room row) (sym e) (fault_first room row h))

-- A row whose count of kinds does not fit is no form, and the place to tell is the number of kinds that it should have room for.
pub uncounted : (room : Room) (row : List ℕ) (p : ℕ) → count_fits room row ≡ false → p ≡ room_kinds room →
    (form_fits room row ≡ false) × (p ≡ fault room row) × FirstFault room row p
unfolding form_fits fault
uncounted room row p h e = told room row p (rw h) (rw h e)

-- A row of which kind k is the first at fault.
pub misfit : (room : Room) (row : List ℕ) (k place : ℕ) → count_fits room row ≡ true → place ≡ k → k < kinds_count row →
    kind_fits room row k ≡ false → ((i : ℕ) → i < k → kind_fits room row i ≡ true) →
    (form_fits room row ≡ false) × (place ≡ fault room row) × FirstFault room row place
unfolding form_fits fault
misfit room row k place h e l off before =
    let p = kind_fits room row in
    let n = kinds_count row in
    told room row place (rw h (every_off p n k l off)) (rw (e, h) (sym (first_failing_here p n k (every_from p k before) off l)))

-- A row that counts its kinds rightly, each of which fits, is a form.
pub all_fit : (room : Room) (row : List ℕ) → count_fits room row ≡ true →
    ((k : ℕ) → k < kinds_count row → kind_fits room row k ≡ true) → form_fits room row ≡ true
unfolding form_fits
all_fit room row h each =
    and_from (count_fits room row) (every (kind_fits room row) (kinds_count row)) h (every_from (kind_fits room row) (kinds_count row) each)
