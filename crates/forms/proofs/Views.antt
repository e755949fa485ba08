-- What a view shows: the parts of its form, found in the row, and that the form is proper, closed and bounded.
use Rattle.std.proofs.Common.{◌≡◌, ℕ, ◌<◌, ◌≤◌, Bool, true, List, [], length, get_or, take, drop, map, Bor, Option, None, Some, IsSome, MatchOption, refl, ap, sym, subst, ◌+◌, ◌*◌, ◌∙◌, arith}
use Rattle.std.proofs.lemmas.List.{take_all}
use Rattle.std.specs.List.{list_all}
use Rattle.forms.specs.declared.room.Room.{Room}
use Rattle.forms.specs.declared.view.FormView.{FormView}
use Rattle.forms.specs.declared.view.WayView.{WayView}
use Rattle.forms.specs.Fits.{KeepsTo, way_fits}
use Rattle.forms.specs.Form.{number, ways_at, way_at, places_of, shape, no_place, proper, Closed, Bounded}
use Rattle.forms.specs.Layout.{room_kinds, room_ways, ways_count, place_by, place_in, way_from, way_start}
use Rattle.forms.specs.View.{form_of, way_of}
use Rattle.forms.proofs.Fitting.{Counted, counted, KindThere, kind_there, WayThere, way_there, PlaceThere, place_there, Placed, placed, place_fitting, keeps_to, places_few, way_parts}
use Rattle.forms.proofs.Parts.{place_of_way, kinds_of_form, map_taken}
use Rattle.forms.proofs.Chunks.{place_cut}
use Rattle.forms.proofs.Every.{every_taken, every_from}
use Rattle.forms.proofs.Offsets.{room_small}
use Rattle.forms.proofs.Same.{WayCut, way_cut}
use Rattle.forms.proofs.Proper.{form_proper, form_closed, form_bounded}

pub view_counted : (v : FormView) → Counted v.room v.row.now
view_counted v = counted v.room v.row.now v.fits

pub view_kind : (v : FormView) (k : ℕ) → k < length (form_of v) → KindThere v.room v.row.now k
view_kind v k l = kind_there v.room v.row.now k v.fits l

pub view_way : (v : FormView) (k w : ℕ) → k < length (form_of v) → w < length (ways_at (form_of v) k) →
    WayThere v.room v.row.now k w
view_way v k w l m = way_there v.room v.row.now k w v.fits l m

pub view_place : (v : FormView) (k w i : ℕ) → k < length (form_of v) → w < length (ways_at (form_of v) k) →
    i < length (places_of (way_at (form_of v) k w)) → PlaceThere v.room v.row.now k w i
view_place v k w i l m j = place_there v.room v.row.now k w i v.fits l m j

-- A row has room for each way of its form.
pub view_room : (v : FormView) (k w : ℕ) → k < length (form_of v) → w < length (ways_at (form_of v) k) →
    (k < room_kinds v.room) × (w < room_ways v.room) × (room_ways v.room ≤ 9)
view_room v k w l m = ((view_kind v k l).room_for, (view_way v k w l m).room_for, omega (arith, room_small v.room))

-- The numbers of a way of a form, cut out of its row.
pub view_cut : (v : FormView) (row : Bor (List ℕ)) (room : Room) (k w : ℕ) → k < length (form_of v) → w < length (ways_at (form_of v) k) →
    row ≡ v.row → room ≡ v.room → {numbers : List ℕ} → numbers ≡ take 16 (drop (way_start room k w) row.now) →
    WayCut (length (form_of v)) numbers v.row.now (way_start v.room k w)
view_cut v row room k w l m e f {numbers} cut =
    let t = view_way v k w l m in
    let few : length (form_of v) ≤ 16 = omega (arith, view_counted v, kinds_of_form v.room v.row.now, room_small v.room) in
    let here : numbers ≡ take 16 (drop (way_start v.room k w) v.row.now) = cc in
    way_cut (length (form_of v)) numbers v.row.now (way_start v.room k w) few t.fits here

-- What a row gives as the ways of a kind: none, if there is no room for them.
abbrev WaysGiven : Room → List ℕ → ℕ → Option (Bor (List (List ℕ))) → Type 0
WaysGiven room row k r =
    MatchOption r (room_ways room < ways_count room row k)
    (λ ways. (length ways.now ≡ ways_count room row k) × (length ways.now ≤ room_ways room)
    × ((w : ℕ) → w < length ways.now → get_or ways.now w [] ≡ take 16 (drop (way_start room k w) row)))

-- The row of a form gives them.
pub ways_given : (v : FormView) (row : Bor (List ℕ)) (room : Room) (k : ℕ) (r : Option (Bor (List (List ℕ)))) → k < length (form_of v) →
    row ≡ v.row → room ≡ v.room → WaysGiven room row.now k r → IsSome r
ways_given v row room k None l e f h =
    let t = view_kind v k l in
    let g : room_ways v.room < ways_count v.room v.row.now k = rw (← e, ← f) h in
    absurd (omega arith)
ways_given v row room k (Some ways) l e f h = refl

-- The ways of a kind, cut out of its row.
pub record WaysCut (v : FormView) (k : ℕ) (ways : List (List ℕ)) : Type 0 where
  pub fit : list_all (λ numbers. way_fits 16 numbers 0) ways ≡ true
  pub are : map (λ numbers. way_from numbers 0) ways ≡ ways_at (form_of v) k

pub view_ways : (v : FormView) (row : Bor (List ℕ)) (room : Room) (k : ℕ) (r : Option (Bor (List (List ℕ)))) (ways : Bor (List (List ℕ))) →
    k < length (form_of v) → row ≡ v.row → room ≡ v.room → WaysGiven room row.now k r → r ≡ Some ways → WaysCut v k ways.now
view_ways v row room k r ways l e f given is =
    let h = subst (λ o. WaysGiven room row.now k o) is given in
    let t = view_kind v k l in
    let n = length ways.now in
    let c : n ≡ ways_count v.room v.row.now k = cc (h.0, e, f) in
    let all : take n ways.now ≡ ways.now = take_all n ways.now (omega arith) in
    let fits : ℕ → Bool = λ w. way_fits 16 (get_or ways.now w []) 0 in
    let one : (w : ℕ) → w < n → WayCut (length (form_of v)) (get_or ways.now w []) v.row.now (way_start v.room k w) =
    λ w m. view_cut v row room k w l (omega arith) e f (h.2 w m) in
    record {
      fit =
          ap (list_all (λ numbers. way_fits 16 numbers 0)) (sym all)
          ∙ (every_taken (λ numbers. way_fits 16 numbers 0) fits ways.now [] n (omega arith) (λ w m. refl) ∙ every_from fits n (λ w m. (one w m).fits));
      are =
          ap (map (λ numbers. way_from numbers 0)) (sym all)
          ∙ map_taken (λ numbers. way_from numbers 0) ways.now (ways_at (form_of v) k) n [] (number 0 0) (omega arith) (omega arith)
          (λ w m. (one w m).is ∙ sym (view_way v k w l (omega arith)).is);
    }

-- A place of a way in hand.
pub record PlaceOf (v : WayView) (i : ℕ) : Type 0 where
  pub few : i < 4
  pub is : get_or (places_of (way_of v)) i no_place ≡ place_in v.numbers.now 0 i
  pub fits : Placed 16 v.numbers.now 0 i

pub way_keeps : (v : WayView) → KeepsTo 16 (shape (way_of v))
way_keeps v = keeps_to 16 (shape (way_of v)) (way_parts 16 v.numbers.now 0 v.fits).0

pub way_few : (v : WayView) → length (places_of (way_of v)) ≤ 4
way_few v = places_few 16 (way_of v) (way_keeps v)

pub way_place : (v : WayView) (i : ℕ) → i < length (places_of (way_of v)) → PlaceOf v i
way_place v i h =
    let row = v.numbers.now in
    record {
      few = omega (arith, way_few v);
      is = place_of_way (get_or row 0 0) row 0 i no_place h;
      fits = placed 16 row 0 i (place_fitting 16 row 0 i v.fits h);
    }

pub view_proper : (v : FormView) → proper (form_of v) ≡ true
view_proper v = form_proper v.room v.row.now v.fits

pub view_closed : (v : FormView) → Closed (form_of v)
view_closed v = form_closed v.room v.row.now v.fits

pub view_bounded : (v : FormView) → Bounded (room_kinds v.room) (room_ways v.room) (form_of v)
view_bounded v = form_bounded v.room v.row.now v.fits

-- The places of a way in hand, cut out of its numbers.
pub places_cut : (v : WayView) (n : ℕ) (places : List (List ℕ)) → n ≡ length (places_of (way_of v)) → length places ≡ 4 →
    ((i : ℕ) → i < 4 → get_or places i [] ≡ take 3 (drop (4 + 3 * i) v.numbers.now)) →
    map place_by (take n places) ≡ places_of (way_of v)
places_cut v n places e long cut =
    let few : n ≤ 4 = omega (arith, way_few v) in
    map_taken place_by places (places_of (way_of v)) n [] no_place (omega arith) (sym e) λ i m.
    place_cut v.numbers.now (get_or places i []) i (cut i (omega arith)) ∙ sym (way_place v i (omega arith)).is
