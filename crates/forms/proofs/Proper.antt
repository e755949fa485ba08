-- The form in a row that is one is proper, closed and bounded.
use Rattle.std.proofs.Common.{◌≡◌, ℕ, suc, ◌-◌, ◌^◌, ◌<◌, true, ◌||◌, eqb, ltb, List, [], ◌∷◌, length, get_or, refl, ap, subst, inl, inr, arith}
use Rattle.std.proofs.lemmas.Bool.{and_from, or_cases, eqb-true, lt-ltb, ltb-true}
use Rattle.forms.specs.declared.room.Room.{Room}
use Rattle.forms.specs.declared.way.Place.{Place}
use Rattle.forms.specs.Form.{Form, Way, number, list, record_of, shape, no_place, ways_at, way_at, places_of, place_at, rising, proper_ways, proper, KindsTherePlaces, KindsThereWays, Closed, Bounded, BoundedWay}
use Rattle.forms.specs.Fits.{KeepsTo, form_fits, name_above}
use Rattle.forms.specs.Layout.{room_kinds, room_ways, form_in, place_in, name_in, way_start}
use Rattle.forms.proofs.Fitting.{counted, kind_there, way_there, place_there}
use Rattle.forms.proofs.Parts.{kinds_of_form}

-- By the index: rising, proper and closed.
pub rising_from : (ps : List Place) →
    ((i : ℕ) → suc i < length ps → (get_or ps i no_place).name < (get_or ps (suc i) no_place).name) → rising ps ≡ true
unfolding rising
rising_from [] h = refl
rising_from (p ∷ []) h = refl
rising_from (p ∷ q ∷ ps) h =
    and_from (ltb p.name q.name) (rising (q ∷ ps)) (lt-ltb p.name q.name (h 0 (omega arith)))
    (rising_from (q ∷ ps) (λ i l. h (suc i) (omega arith)))

pub proper_ways_from : (ws : List Way) →
    ((w : ℕ) → w < length ws → rising (places_of (get_or ws w (number 0 0))) ≡ true) → proper_ways ws ≡ true
unfolding proper_ways
proper_ways_from [] h = refl
proper_ways_from (number a b ∷ ws) h = proper_ways_from ws (λ w l. h (suc w) (omega arith))
proper_ways_from (list k a b ∷ ws) h = proper_ways_from ws (λ w l. h (suc w) (omega arith))
proper_ways_from (record_of ps ∷ ws) h =
    and_from (rising ps) (proper_ways ws) (h 0 (omega arith)) (proper_ways_from ws (λ w l. h (suc w) (omega arith)))

pub proper_from : (f : Form) → ((k : ℕ) → k < length f → proper_ways (ways_at f k) ≡ true) → proper f ≡ true
unfolding proper
proper_from [] h = refl
proper_from (ws ∷ wss) h =
    and_from (proper_ways ws) (proper wss) (h 0 (omega arith)) (proper_from wss (λ k l. h (suc k) (omega arith)))

pub kinds_there_places_from : (n : ℕ) (ps : List Place) →
    ((i : ℕ) → i < length ps → (get_or ps i no_place).kind < n) → KindsTherePlaces n ps
unfolding KindsTherePlaces
kinds_there_places_from n [] h = omega arith
kinds_there_places_from n (p ∷ ps) h = (h 0 (omega arith), kinds_there_places_from n ps (λ i l. h (suc i) (omega arith)))

-- What a way asks of the kinds.
abbrev KindsThere : ℕ → Way → Type 0
KindsThere n w = KeepsTo n (shape w) × ((i : ℕ) → i < length (places_of w) → (get_or (places_of w) i no_place).kind < n)

pub kinds_there_ways_from : (n : ℕ) (ws : List Way) →
    ((w : ℕ) → w < length ws → KindsThere n (get_or ws w (number 0 0))) → KindsThereWays n ws
unfolding KindsThereWays
kinds_there_ways_from n [] h = omega arith
kinds_there_ways_from n (number a b ∷ ws) h = kinds_there_ways_from n ws (λ w l. h (suc w) (omega arith))
kinds_there_ways_from n (list k a b ∷ ws) h =
    ((h 0 (omega arith)).0.0, kinds_there_ways_from n ws (λ w l. h (suc w) (omega arith)))
kinds_there_ways_from n (record_of ps ∷ ws) h = (
  kinds_there_places_from n ps (h 0 (omega arith)).1,
  kinds_there_ways_from n ws (λ w l. h (suc w) (omega arith)),
)

-- A name that is above the one before it.
rising_step : (row : List ℕ) (at i : ℕ) → name_above row at (suc i) ≡ true → name_in row at i < name_in row at (suc i)
rising_step row at i h =
    let before : suc i - 1 ≡ i = omega arith in
    let Above : ℕ → Type 0 = λ j. (eqb (suc i) 0 || ltb (name_in row at j) (name_in row at (suc i))) ≡ true in
    elim (or_cases (eqb (suc i) 0) (ltb (name_in row at i) (name_in row at (suc i))) (subst Above before h))
    [ inl e ↦ absurd (omega (arith, eqb-true (suc i) 0 e)) | inr e ↦ ltb-true (name_in row at i) (name_in row at (suc i)) e ]

bounded_from : (n : ℕ) (w : Way) → KeepsTo n (shape w) →
    ((i : ℕ) → i < length (places_of w) → (get_or (places_of w) i no_place).name < 2 ^ 32) → BoundedWay w
bounded_from n (number a b) h p = h
bounded_from n (list k a b) h p = (h.1, h.2)
bounded_from n (record_of ps) h p = (h, p)

-- The form in a row.
module _ (room : Room) (row : List ℕ) (fits : form_fits room row ≡ true) where
  -- names rise
  names_rise : (k w i : ℕ) → k < length (form_in room row) → w < length (ways_at (form_in room row) k) →
      suc i < length (places_of (way_at (form_in room row) k w)) →
      (place_at (form_in room row) k w i).name < (place_at (form_in room row) k w (suc i)).name
  unfolding place_in
  names_rise k w i l m j =
      let p = place_there room row k w i fits l m (omega arith) in
      let q = place_there room row k w (suc i) fits l m j in
      let at = way_start room k w in
      let below : name_in row at i < name_in row at (suc i) = rising_step row at i q.fits.above in
      let e = ap (λ x. x.name) p.is in
      let e' = ap (λ x. x.name) q.is in
      omega arith

  pub form_proper : proper (form_in room row) ≡ true
  form_proper =
      proper_from (form_in room row) λ k l.
      proper_ways_from (ways_at (form_in room row) k) λ w m.
      rising_from (places_of (way_at (form_in room row) k w)) λ i j. names_rise k w i l m j

  pub form_closed : Closed (form_in room row)
  unfolding Closed place_in
  form_closed k l =
      kinds_there_ways_from (length (form_in room row)) (ways_at (form_in room row) k) λ w m. (
        (way_there room row k w fits l m).keeps,
        λ i j. let p = place_there room row k w i fits l m j in let e = ap (λ x. x.kind) p.is in omega arith,
      )

  way_bounded : (k w : ℕ) → k < length (form_in room row) → w < length (ways_at (form_in room row) k) →
      BoundedWay (way_at (form_in room row) k w)
  unfolding place_in
  way_bounded k w l m =
      bounded_from (length (form_in room row)) (way_at (form_in room row) k w) (way_there room row k w fits l m).keeps
      λ i j. let p = place_there room row k w i fits l m j in let e = ap (λ x. x.name) p.is in omega arith

  pub form_bounded : Bounded (room_kinds room) (room_ways room) (form_in room row)
  form_bounded =
      let c = counted room row fits in
      record {
        some = omega (arith, kinds_of_form room row);
        few = omega (arith, kinds_of_form room row);
        few_ways = λ k l. let h = kind_there room row k fits l in omega arith;
        each_way = way_bounded;
      }
