-- What a form takes after one of its kinds is changed.
use Rattle.std.proofs.Common.{◌≡◌, ℕ, ◌<◌, Bool, true, false, not, List, [], ◌∷◌, ◌++◌, length, set, refl, subst, inl, inr, append-nil}
use mathlib.Core.Bool.{or-false}
use Rattle.std.proofs.lemmas.List.{get_or-set_same, get_or-set_other}
use Rattle.std.proofs.lemmas.Bool.{and_parts, and_left, and_right, not_from_true, cases_eq, false≢true}
use Rattle.papers.specs.Paper.{Paper, num, items, fields, Fields, no_fields, field}
use Rattle.forms.specs.declared.way.Place.{Place}
use Rattle.forms.specs.Form.{Form, Way, number, list, record_of, ways_at}
use Rattle.taking.specs.Takes.{any, none_must, find, if_found, takes, fields_take}
use Rattle.taking.specs.Within.{Wider, with_place, NewField}
use Rattle.taking.proofs.Finding.{found_both}
use Rattle.taking.proofs.Covering.{CoversPlaces, CoversPlaces.none, CoversPlaces.both, CoversPlaces.more, Covers, Covers.records, covers_same_numbers, covers_same_lists, Covered, Covered.none as no_ways, covered_by_more, covered_one_more, covered_takes}

-- Places are covered by themselves and others behind them that need not be filled; a way and ways are covered by themselves.
places_and_more : (ps rest : List Place) → CoversPlaces ◌≡◌ [] rest → CoversPlaces ◌≡◌ ps (ps ++ rest)
places_and_more [] rest c = c
places_and_more (p ∷ ps) rest c = both refl refl (λ m. m) (places_and_more ps rest c)

covers_itself : (w : Way) → Covers ◌≡◌ w w
covers_itself (number a b) = covers_same_numbers
covers_itself (list k a b) = covers_same_lists refl
covers_itself (record_of ps) = records (subst (CoversPlaces ◌≡◌ ps) (append-nil ps) (places_and_more ps [] none))

covered_by_themselves : (ws : List Way) → Covered ◌≡◌ ws ws
covered_by_themselves [] = no_ways
covered_by_themselves (w ∷ ws) = covered_one_more (covers_itself w) (covered_by_themselves ws)

-- If the new ways of a kind cover the old ones, no paper is lost, at any kind.
pub widened : (f : Form) (i : ℕ) (ws : List Way) → i < length f → Covered ◌≡◌ (ways_at f i) ws →
    (d : Paper) (k : ℕ) → takes d f k ≡ true → takes d (set f i ws) k ≡ true
widened f i ws l c d k h = covered_takes f (set f i ws) ◌≡◌ covered d k k refl h
  where
    covered : (k j : ℕ) → k ≡ j → Covered ◌≡◌ (ways_at f k) (ways_at (set f i ws) j)
    covered k j e =
        elim (cases_eq j i) [
          | inl same ↦ rw (e, same, get_or-set_same f i ws [] l) c
          | inr other ↦ rw (e, get_or-set_other f i j ws [] other) (covered_by_themselves (ways_at f j))
        ]

pub wider : Wider
wider f i k w l d _ h = widened f i _ l (covered_by_more w (covered_by_themselves (ways_at f i))) d k h

-- A place behind the others that must be filled is left unfilled by the fields that were taken without it: each has a place
-- before it.
must_behind : (p : Place) → p.must ≡ true → (ps : List Place) → none_must (with_place ps p) ≡ false
unfolding none_must
must_behind p m [] = and_left (not p.must) true (not_from_true p.must m)
must_behind p m (q ∷ ps) = and_right (not q.must) (none_must (with_place ps p)) (must_behind p m ps)

found_before : (x : ℕ) (rest : List Place) (t u : ℕ → List Place → Bool) →
    ((k : ℕ) (ps : List Place) → t k ps ≡ true → u k (ps ++ rest) ≡ false) →
    (ps : List Place) → if_found (find x ps) t ≡ true → if_found (find x (ps ++ rest)) u ≡ false
unfolding find
found_before x rest t u tells [] h = absurd (false≢true h)
found_before x rest t u tells (p ∷ ps) h =
    found_both x t u false p p ps (ps ++ rest) refl (λ m. m) (tells p.kind ps) (found_before x rest t u tells ps) h

unfilled : (fs : Fields) (f g : Form) (p : Place) → p.must ≡ true → (ps : List Place) →
    fields_take fs f ps ≡ true → fields_take fs g (with_place ps p) ≡ false
unfolding takes
unfilled no_fields f g p m ps h = must_behind p m ps
unfilled (field x d fs) f g p m ps h =
    found_before x (p ∷ []) _ _ (λ k ps h.
    let s = and_parts (takes d f k) (fields_take fs f ps) h in
    and_right (takes d g k) (fields_take fs g (with_place ps p)) (unfilled fs f g p m ps s.1))
    ps h

lost : (f g : Form) (i : ℕ) (p : Place) (ps : List Place) → p.must ≡ true → ways_at f i ≡ record_of ps ∷ [] →
    ways_at g i ≡ record_of (with_place ps p) ∷ [] → (d : Paper) → takes d f i ≡ true → takes d g i ≡ false
unfolding takes any
lost f g i p ps m was is (num n) h = rw is
lost f g i p ps m was is (items ds) h = rw is
lost f g i p ps m was is (fields fs) h = rw (is, or-false) (unfilled fs f g p m ps (rw (was, or-false) at h))

pub new_field : NewField
unfolding find
new_field f i k x j ps l was _ =
    (λ d _ h. widened f i _ l covered d k h, lost f _ i _ ps refl was (get_or-set_same f i _ [] l))
  where
    covered : Covered ◌≡◌ (ways_at f i) (record_of (with_place ps (record { name = x; kind = j; must = false })) ∷ [])
    covered = rw was (covered_one_more (records (places_and_more ps _ (more refl refl none))) no_ways)
