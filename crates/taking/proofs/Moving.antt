-- A form whose kinds are numbered anew takes the same papers.
use Rattle.std.proofs.Common.{◌≡◌, ℕ, zero, suc, ◌+◌, ◌<◌, List, [], ◌∷◌, ◌++◌, length, sym, refl, ◌∙◌}
use Rattle.std.proofs.lemmas.List.{get_or-append-add}
use Rattle.papers.specs.Paper.{Paper}
use Rattle.forms.specs.declared.way.Place.{Place}
use Rattle.forms.specs.Form.{Form, Way, number, list, record_of, ways_at, Closed, KindsTherePlaces, KindsThereWays}
use Rattle.taking.specs.Takes.{takes}
use Rattle.taking.specs.Within.{moved_places, moved_ways, moved, MovedTakes}
use Rattle.taking.proofs.Covering.{CoversPlaces, CoversPlaces.none, CoversPlaces.both, Covers.records, covers_same_numbers, covers_same_lists, Covered.none as no_ways, Alike, covered_one_more, alike_takes}

-- A kind k below m is numbered n + k.
abbrev Moved : ℕ → ℕ → ℕ → ℕ → Type 0
Moved m n k j = (k < m) × (j ≡ n + k)

-- Places and ways that name only kinds below m, and those with the kinds numbered anew, cover each other.
places_alike : (m n : ℕ) (ps : List Place) → KindsTherePlaces m ps →
    CoversPlaces (Moved m n) ps (moved_places n ps) × CoversPlaces (λ j k. Moved m n k j) (moved_places n ps) ps
unfolding KindsTherePlaces moved_places
places_alike m n [] h = (none, none)
places_alike m n (p ∷ ps) h =
    let c = places_alike m n ps h.1 in
    (both refl (h.0, refl) (λ e. e) c.0, both refl (h.0, refl) (λ e. e) c.1)

ways_alike : (m n : ℕ) (ws : List Way) → KindsThereWays m ws → Alike (Moved m n) ws (moved_ways n ws)
unfolding KindsThereWays moved_ways
ways_alike m n [] h = (no_ways, no_ways)
ways_alike m n (number a b ∷ ws) h =
    let c = ways_alike m n ws h in
    (covered_one_more covers_same_numbers c.0, covered_one_more covers_same_numbers c.1)
ways_alike m n (list k a b ∷ ws) h =
    let c = ways_alike m n ws h.1 in
    (covered_one_more (covers_same_lists (h.0, refl)) c.0, covered_one_more (covers_same_lists (h.0, refl)) c.1)
ways_alike m n (record_of ps ∷ ws) h =
    let p = places_alike m n ps h.0 in
    let c = ways_alike m n ws h.1 in
    (covered_one_more (records p.0) c.0, covered_one_more (records p.1) c.1)

-- If h has the ways of g from n on, its kind n + k takes what the kind k of g takes.
pub takes_moved : (g h : Form) (n : ℕ) → Closed g →
    ((k : ℕ) → k < length g → ways_at h (n + k) ≡ moved_ways n (ways_at g k)) →
    (d : Paper) (k : ℕ) → k < length g → takes d h (n + k) ≡ takes d g k
unfolding Closed
takes_moved g h n closed same d k l = sym (alike_takes g h (Moved (length g) n) alike d k (n + k) (l, refl))
  where
    alike : (k j : ℕ) → Moved (length g) n k j → Alike (Moved (length g) n) (ways_at g k) (ways_at h j)
    alike k j r = rw (r.1, same k r.0) (ways_alike (length g) n (ways_at g k) (closed k r.0))

ways_at_moved : (n : ℕ) (g : Form) (k : ℕ) → ways_at (moved n g) k ≡ moved_ways n (ways_at g k)
unfolding moved moved_ways
ways_at_moved n [] k = refl
ways_at_moved n (ws ∷ wss) zero = refl
ways_at_moved n (ws ∷ wss) (suc k) = ways_at_moved n wss k

pub moved_takes : MovedTakes
moved_takes f g k d closed l =
    takes_moved g (f ++ moved (length f) g) (length f) closed
    (λ i _. get_or-append-add f (moved (length f) g) i [] ∙ ways_at_moved (length f) g i) d k l
