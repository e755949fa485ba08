-- A way is the same wherever its numbers lie.
use Rattle.std.proofs.Common.{◌≡◌, ℕ, zero, suc, ◌+◌, ◌*◌, ◌-◌, ◌^◌, ◌<◌, ◌≤◌, true, ◌&&◌, leb, ltb, List, [], length, get_or, take, drop, sym, refl, ap, ap₂, ◌∙◌, inl, inr, arith}
use Rattle.std.proofs.lemmas.Bool.{cases_Bool, and_parts, and_from, ltb-true, lt-ltb}
use Rattle.std.specs.List.{list_all}
use Rattle.forms.specs.declared.room.Room.{Room}
use Rattle.forms.specs.declared.way.Way.{Way as Shape}
use Rattle.forms.specs.declared.way.Way.TheVariants.{Number, List as ListOf, Record}
use Rattle.forms.specs.Form.{record_of, shape, no_place, places_of}
use Rattle.forms.specs.Fits.{every, place_fits, name_above, within_limits, way_fits, way_fits_in}
use Rattle.forms.specs.Layout.{way_by, way_from, way_start, kinds_count, place_in, name_in, kind_in, mark_in}
use Rattle.forms.proofs.Chunks.{piece_at}
use Rattle.forms.proofs.Every.{every_same, every_taken, every_from}
use Rattle.forms.proofs.Parts.{length_listed, listed_same, places_of_shape}
use Rattle.forms.proofs.Fitting.{keeps_to, places_few, way_parts, place_fitting}

-- The same 16 numbers stand in one row from `a` on and in another from `b` on.
abbrev pub Alike : List ℕ → ℕ → List ℕ → ℕ → Type 0
Alike r a s b = (i : ℕ) → i < 16 → get_or r (a + i) 0 ≡ get_or s (b + i) 0

pub cut_out : (row : List ℕ) (at : ℕ) → Alike (take 16 (drop at row)) 0 row at
cut_out row at i h =
    let e : 0 + i ≡ i = omega arith in
    rw e (piece_at 16 at row i (at + i) 0 h refl)

module _ (r s : List ℕ) (a b : ℕ) (alike : Alike r a s b) where
  first : get_or r a 0 ≡ get_or s b 0
  first =
      let e : a + 0 ≡ a = omega arith in
      let f : b + 0 ≡ b = omega arith in
      cc (alike 0 (omega arith))

  -- What a way is.
  shape_by : (t : ℕ) → shape (way_by t r a) ≡ shape (way_by t s b)
  unfolding way_by
  shape_by zero = cc (alike 1 (omega arith), alike 2 (omega arith))
  shape_by (suc zero) = cc (alike 1 (omega arith), alike 2 (omega arith), alike 3 (omega arith))
  shape_by (suc (suc t)) =
      ap Record (length_listed (place_in r a) (get_or r (a + 1) 0) ∙ (alike 1 (omega arith) ∙ sym (length_listed (place_in s b) (get_or s (b + 1) 0))))

  pub shape_alike : shape (way_from r a) ≡ shape (way_from s b)
  shape_alike = ap (λ t. shape (way_by t r a)) first ∙ shape_by (get_or s b 0)

  places_alike : length (places_of (way_from r a)) ≡ length (places_of (way_from s b))
  places_alike = cc (shape_alike, places_of_shape (way_from r a), places_of_shape (way_from s b))

  -- The numbers of a place.
  name_alike : (i : ℕ) → i < 4 → name_in r a i ≡ name_in s b i
  name_alike i h = alike (4 + 3 * i) (omega arith)

  kind_alike : (i : ℕ) → i < 4 → kind_in r a i ≡ kind_in s b i
  kind_alike i h =
      let e : a + (4 + 3 * i + 1) ≡ a + (4 + 3 * i) + 1 = omega arith in
      let f : b + (4 + 3 * i + 1) ≡ b + (4 + 3 * i) + 1 = omega arith in
      cc (alike (4 + 3 * i + 1) (omega arith))

  mark_alike : (i : ℕ) → i < 4 → mark_in r a i ≡ mark_in s b i
  mark_alike i h =
      let e : a + (4 + 3 * i + 2) ≡ a + (4 + 3 * i) + 2 = omega arith in
      let f : b + (4 + 3 * i + 2) ≡ b + (4 + 3 * i) + 2 = omega arith in
      cc (alike (4 + 3 * i + 2) (omega arith))

  place_alike : (i : ℕ) → i < 4 → place_in r a i ≡ place_in s b i
  unfolding place_in
  place_alike i h = rw (name_alike i h, kind_alike i h, mark_alike i h)

  place_fits_alike : (n i : ℕ) → i < 4 → place_fits n r a i ≡ place_fits n s b i
  unfolding place_fits
  place_fits_alike n zero h = rw (name_alike 0 h, kind_alike 0 h, mark_alike 0 h)
  place_fits_alike n (suc i) h =
      let e : suc i - 1 ≡ i = omega arith in
      rw (e, name_alike (suc i) h, kind_alike (suc i) h, mark_alike (suc i) h, name_alike i (omega arith))

  limited : (n c : ℕ) → (within_limits n (shape (way_from s b)) ≡ true → c ≤ 4) →
      (within_limits n (shape (way_from s b)) && every (place_fits n r a) c)
      ≡ (within_limits n (shape (way_from s b)) && every (place_fits n s b) c)
  limited n c few =
      elim (cases_Bool (within_limits n (shape (way_from s b)))) [
        | inl e ↦
            let h = few e in
            ap (λ x. within_limits n (shape (way_from s b)) && x)
            (every_same (place_fits n r a) (place_fits n s b) c (λ i l. place_fits_alike n i (omega arith)))
        | inr e ↦ rw e
      ]

  pub way_fits_alike : (n : ℕ) → way_fits n r a ≡ way_fits n s b
  unfolding way_fits
  way_fits_alike n =
      let c = length (places_of (way_from s b)) in
      let few : within_limits n (shape (way_from s b)) ≡ true → c ≤ 4 = λ e. places_few n (way_from s b) (keeps_to n (shape (way_from s b)) e) in
      ap₂ ◌&&◌ (ap (λ (t : ℕ). leb t 2) first)
      (ap₂ (λ (x : Shape) (m : ℕ). within_limits n x && every (place_fits n r a) m) shape_alike places_alike ∙ limited n c few)

  way_by_alike : (t : ℕ) → length (places_of (way_by t s b)) ≤ 4 → way_by t r a ≡ way_by t s b
  unfolding way_by
  way_by_alike zero h = cc (alike 1 (omega arith), alike 2 (omega arith))
  way_by_alike (suc zero) h = cc (alike 1 (omega arith), alike 2 (omega arith), alike 3 (omega arith))
  way_by_alike (suc (suc t)) h =
      let n = get_or s (b + 1) 0 in
      let l = length_listed (place_in s b) n in
      rw (alike 1 (omega arith)) (ap record_of (listed_same (place_in r a) (place_in s b) n no_place (λ i k. place_alike i (omega arith))))

  pub way_alike : length (places_of (way_from s b)) ≤ 4 → way_from r a ≡ way_from s b
  way_alike h = ap (λ t. way_by t r a) first ∙ way_by_alike (get_or s b 0) h

-- What keeps to the limits of so many kinds keeps to those of more.
limits_more : (n m : ℕ) (x : Shape) → n ≤ m → within_limits n x ≡ true → within_limits m x ≡ true
limits_more n m (Number from to) l h = h
limits_more n m (ListOf kind least most) l h =
    let rest = leb least 16 && leb most 16 in
    let p = and_parts (ltb kind n) rest h in
    let k : kind < m = omega (arith, ltb-true kind n p.0) in
    and_from (ltb kind m) rest (lt-ltb kind m k) p.1
limits_more n m (Record places) l h = h

place_fits_more : (n m : ℕ) (row : List ℕ) (at i : ℕ) → n ≤ m → place_fits n row at i ≡ true → place_fits m row at i ≡ true
unfolding place_fits
place_fits_more n m row at i l h =
    let mark = leb (mark_in row at i) 1 in
    let kind = kind_in row at i in
    let rest = ltb (name_in row at i) (2 ^ 32) && name_above row at i in
    let p = and_parts mark (ltb kind n && rest) h in
    let q = and_parts (ltb kind n) rest p.1 in
    let k : kind < m = omega (arith, ltb-true kind n q.0) in
    and_from mark (ltb kind m && rest) p.0 (and_from (ltb kind m) rest (lt-ltb kind m k) q.1)

way_fits_more : (n m : ℕ) (row : List ℕ) (at : ℕ) → n ≤ m → way_fits n row at ≡ true → way_fits m row at ≡ true
unfolding way_fits
way_fits_more n m row at l h =
    let x = shape (way_from row at) in
    let c = length (places_of (way_from row at)) in
    let tag = leb (get_or row at 0) 2 in
    let p = way_parts n row at h in
    let t = (and_parts tag (within_limits n x && every (place_fits n row at) c) h).0 in
    let fit : every (place_fits m row at) c ≡ true = every_from (place_fits m row at) c (λ i k. place_fits_more n m row at i l (place_fitting n row at i h k)) in
    and_from tag (within_limits m x && every (place_fits m row at) c) t
    (and_from (within_limits m x) (every (place_fits m row at) c) (limits_more n m x l p.0) fit)

-- The numbers of a way, cut out of a row.
pub record WayCut (n : ℕ) (numbers row : List ℕ) (at : ℕ) : Type 0 where
  pub fits : way_fits 16 numbers 0 ≡ true
  pub is : way_from numbers 0 ≡ way_from row at

pub way_cut : (n : ℕ) (numbers row : List ℕ) (at : ℕ) → n ≤ 16 → way_fits n row at ≡ true → numbers ≡ take 16 (drop at row) → WayCut n numbers row at
way_cut n numbers row at l h e =
    let alike = cut_out row at in
    let few = places_few n (way_from row at) (keeps_to n (shape (way_from row at)) (way_parts n row at h).0) in
    record {
      fits = rw (e, way_fits_alike (take 16 (drop at row)) row 0 at alike 16) (way_fits_more n 16 row at l h);
      is = rw e (way_alike (take 16 (drop at row)) row 0 at alike few);
    }

-- The first n ways of a kind, cut out of a row.
pub ways_cut : (room : Room) (row : List ℕ) (k n kinds : ℕ) (ways : List (List ℕ)) → n ≤ length ways → kinds ≡ kinds_count row →
    ((w : ℕ) → w < n → get_or ways w [] ≡ take 16 (drop (way_start room k w) row)) →
    list_all (λ way. way_fits kinds way 0) (take n ways) ≡ every (way_fits_in room row k) n
unfolding way_fits_in
ways_cut room row k n kinds ways h e cut =
    every_taken (λ way. way_fits kinds way 0) (way_fits_in room row k) ways [] n h λ w l.
    let at = way_start room k w in
    ap₂ (λ (m : ℕ) (x : List ℕ). way_fits m x 0) e (cut w l)
    ∙ way_fits_alike (take 16 (drop at row)) row 0 at (cut_out row at) (kinds_count row)
