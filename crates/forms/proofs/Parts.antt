-- The parts of the form in a row: how many, and which.
use Rattle.std.proofs.Common.{◌≡◌, ℕ, zero, suc, ◌+◌, ◌<◌, ◌≤◌, List, [], length, get_or, take, map, sym, refl, ap, ◌∙◌, arith}
use Rattle.std.proofs.lemmas.List.{length-take-le, length-map, get_or-take, get_or-map, ext_get_or}
use Rattle.std.proofs.lemmas.List.FromFn.{length-map-range_with_len, get_or-map-range_with_len, fill_by_all}
use Rattle.forms.specs.declared.room.Room.{Room}
use Rattle.forms.specs.declared.way.Place.{Place}
use Rattle.forms.specs.declared.way.Way.TheVariants.{Record}
use Rattle.forms.specs.Form.{Way, number, list, record_of, ways_at, way_at, places_of, shape, shape_places}
use Rattle.forms.specs.Layout.{listed, form_in, ways_in, way_in, way_by, place_in, kinds_count, ways_count}

pub length_listed : {X : Type 0} → (f : ℕ → X) (n : ℕ) → length (listed f n) ≡ n
unfolding listed
length_listed f n = length-map-range_with_len f 0 n

pub getD_listed : {X : Type 0} → (f : ℕ → X) (n i : ℕ) (d : X) → i < n → get_or (listed f n) i d ≡ f i
unfolding listed
getD_listed f n i d h = get_or-map-range_with_len f 0 n i i d h (omega arith)

pub listed_same : {X : Type 0} → (f g : ℕ → X) (n : ℕ) (d : X) → ((i : ℕ) → i < n → f i ≡ g i) → listed f n ≡ listed g n
unfolding listed
listed_same f g n d h =
    fill_by_all g (listed f n) n d (length_listed f n) (λ k l. getD_listed f n k d l ∙ h k l)

pub kinds_of_form : (room : Room) (row : List ℕ) → length (form_in room row) ≡ kinds_count row
unfolding form_in
kinds_of_form room row = length_listed (ways_in room row) (kinds_count row)

pub ways_of_form : (room : Room) (row : List ℕ) (k : ℕ) → k < kinds_count row → ways_at (form_in room row) k ≡ ways_in room row k
unfolding form_in
ways_of_form room row k h = getD_listed (ways_in room row) (kinds_count row) k [] h

pub length_ways_in : (room : Room) (row : List ℕ) (k : ℕ) → length (ways_in room row k) ≡ ways_count room row k
unfolding ways_in
length_ways_in room row k = length_listed (way_in room row k) (ways_count room row k)

pub ways_count_of_form : (room : Room) (row : List ℕ) (k : ℕ) → k < kinds_count row →
    length (ways_at (form_in room row) k) ≡ ways_count room row k
ways_count_of_form room row k h = ap length (ways_of_form room row k h) ∙ length_ways_in room row k

pub way_of_form : (room : Room) (row : List ℕ) (k w : ℕ) → k < kinds_count row → w < ways_count room row k →
    way_at (form_in room row) k w ≡ way_in room row k w
unfolding ways_in
way_of_form room row k w h l =
    ap (λ ws. get_or ws w (number 0 0)) (ways_of_form room row k h)
    ∙ getD_listed (way_in room row k) (ways_count room row k) w (number 0 0) l

-- A way whose first number is neither 0 nor 1 is read as a record.
pub shape_of_rest : (t : ℕ) (row : List ℕ) (at : ℕ) → 1 < t → Record (get_or row (at + 1) 0) ≡ shape (way_by t row at)
unfolding way_by
shape_of_rest zero row at h = absurd (omega arith)
shape_of_rest (suc zero) row at h = absurd (omega arith)
shape_of_rest (suc (suc t)) row at h = ap Record (sym (length_listed (place_in row at) (get_or row (at + 1) 0)))

-- A shape has as many places as its way.
pub places_of_shape : (w : Way) → shape_places (shape w) ≡ length (places_of w)
places_of_shape (number a b) = refl
places_of_shape (list k a b) = refl
places_of_shape (record_of ps) = refl

-- The places of a way are read where they lie.
pub place_of_way : (t : ℕ) (row : List ℕ) (at i : ℕ) (d : Place) → i < length (places_of (way_by t row at)) →
    get_or (places_of (way_by t row at)) i d ≡ place_in row at i
unfolding way_by
place_of_way zero row at i d h = absurd (omega arith)
place_of_way (suc zero) row at i d h = absurd (omega arith)
place_of_way (suc (suc t)) row at i d h =
    let n = get_or row (at + 1) 0 in
    getD_listed (place_in row at) n i d (omega (arith, length_listed (place_in row at) n))

-- What the first n of a list are read as, one by one.
pub map_taken : {X Y : Type 0} (g : X → Y) (xs : List X) (ys : List Y) (n : ℕ) (d : X) (e : Y) → n ≤ length xs → length ys ≡ n →
    ((i : ℕ) → i < n → g (get_or xs i d) ≡ get_or ys i e) → map g (take n xs) ≡ ys
map_taken g xs ys n d e h l same =
    let long : length (take n xs) ≡ n = length-take-le n xs h in
    ext_get_or e (map g (take n xs)) ys (omega (arith, length-map (take n xs) g)) λ i lt.
    let m : i < n = omega (arith, length-map (take n xs) g) in
    get_or-map g (take n xs) i d e (omega arith) ∙ (ap g (get_or-take n xs i d m) ∙ same i m)
