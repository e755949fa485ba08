-- When the ways of one form cover those of another, and that it then takes no less.
use Rattle.std.proofs.Common.{◌≡◌, ℕ, ◌≤◌, Bool, true, false, not, ◌&&◌, leb, List, [], ◌∷◌, inl, inr, arith}
use Rattle.std.proofs.lemmas.Bool.{leb-true, le-leb, and_parts, and_from, or_cases, or_left, or_right, not-true, not_from_false, false≢true, cases_eq}
use Rattle.std.proofs.lemmas.Bool.Decides.{same_from_decides}
use Rattle.papers.specs.Paper.{Paper, num, items, fields, Papers, no_items, item, Fields, no_fields, field, count}
use Rattle.forms.specs.declared.way.Place.{Place}
use Rattle.forms.specs.Form.{Form, Way, number, list, record_of, ways_at}
use Rattle.taking.specs.Takes.{any, number_takes, list_takes, record_takes, none_must, nowhere, find, if_found, takes, all_take, fields_take}
use Rattle.taking.proofs.Finding.{find_past, found_both}

-- In all of these R relates the kinds of one form to kinds of another that are to take no less.

-- Places are covered by places of the same names and related kinds, which must be filled only where the first must. Further ones
-- may stand between and behind them that need not be filled, if no field of their name finds a place among the first from there on.
pub data CoversPlaces (R : ℕ → ℕ → Type 0) : List Place → List Place → Type 0 where
  none : CoversPlaces R [] []
  both : {p q : Place} {ps qs : List Place} → p.name ≡ q.name → R p.kind q.kind → (p.must ≡ false → q.must ≡ false) →
      CoversPlaces R ps qs → CoversPlaces R (p ∷ ps) (q ∷ qs)
  more : {q : Place} {ps qs : List Place} → q.must ≡ false → find q.name ps ≡ nowhere →
      CoversPlaces R ps qs → CoversPlaces R ps (q ∷ qs)

-- A way is covered by one of the same sort: no narrower bounds, a related kind, places that cover its own.
pub data Covers (R : ℕ → ℕ → Type 0) : Way → Way → Type 0 where
  numbers : {a b c e : ℕ} → c ≤ a → b ≤ e → Covers R (number a b) (number c e)
  lists : {k j a b c e : ℕ} → R k j → c ≤ a → b ≤ e → Covers R (list k a b) (list j c e)
  records : {ps qs : List Place} → CoversPlaces R ps qs → Covers R (record_of ps) (record_of qs)

pub covers_same_numbers : {R : ℕ → ℕ → Type 0} {a b : ℕ} → Covers R (number a b) (number a b)
covers_same_numbers = numbers (omega arith) (omega arith)

pub covers_same_lists : {R : ℕ → ℕ → Type 0} {k j a b : ℕ} → R k j → Covers R (list k a b) (list j a b)
covers_same_lists r = lists r (omega arith) (omega arith)

-- A way is covered by one of some ways; each of some ways is covered by one of others; and the other way round too.
pub data CoveredBy (R : ℕ → ℕ → Type 0) (v : Way) : List Way → Type 0 where
  here : {w : Way} {ws : List Way} → Covers R v w → CoveredBy R v (w ∷ ws)
  later : {w : Way} {ws : List Way} → CoveredBy R v ws → CoveredBy R v (w ∷ ws)

pub data Covered (R : ℕ → ℕ → Type 0) : List Way → List Way → Type 0 where
  none : {ws : List Way} → Covered R [] ws
  one : {v : Way} {vs ws : List Way} → CoveredBy R v ws → Covered R vs ws → Covered R (v ∷ vs) ws

abbrev pub Alike : (R : ℕ → ℕ → Type 0) → List Way → List Way → Type 0
Alike R vs ws = Covered R vs ws × Covered (λ j k. R k j) ws vs

pub covered_by_more : {R : ℕ → ℕ → Type 0} {vs ws : List Way} (w : Way) → Covered R vs ws → Covered R vs (w ∷ ws)
covered_by_more w none = none
covered_by_more w (one c cs) = one (later c) (covered_by_more w cs)

pub covered_one_more : {R : ℕ → ℕ → Type 0} {v w : Way} {vs ws : List Way} →
    Covers R v w → Covered R vs ws → Covered R (v ∷ vs) (w ∷ ws)
covered_one_more {w} c cs = one (here c) (covered_by_more w cs)

-- Where a way passes t, each way that covers it passes u. So if one of some ways passes t, one of those that cover them passes u.
module _ (R : ℕ → ℕ → Type 0) (t u : Way → Bool) (tells : (v w : Way) → Covers R v w → t v ≡ true → u w ≡ true) where
  covered_one : {v : Way} {ws : List Way} → CoveredBy R v ws → t v ≡ true → any u ws ≡ true
  unfolding any
  covered_one {v} (here {w} {ws} c) h = or_left (u w) (any u ws) (tells v w c h)
  covered_one (later {w} {ws} c) h = or_right (u w) (any u ws) (covered_one c h)

  covered_any : {vs ws : List Way} → Covered R vs ws → any t vs ≡ true → any u ws ≡ true
  unfolding any
  covered_any none h = absurd (false≢true h)
  covered_any (one {v} {vs} c cs) h = elim (or_cases (t v) (any t vs) h) [ inl e ↦ covered_one c e | inr e ↦ covered_any cs e ]

between : (a b c e n : ℕ) → c ≤ a → b ≤ e → (leb a n && leb n b) ≡ true → (leb c n && leb n e) ≡ true
between a b c e n l m h =
    let s = and_parts (leb a n) (leb n b) h in
    let low : c ≤ n = omega (arith, leb-true a n s.0) in
    let high : n ≤ e = omega (arith, leb-true n b s.1) in
    and_from (leb c n) (leb n e) (le-leb c n low) (le-leb n e high)

-- The three tests of a way: a way that covers passes what the covered one passes.
module _ (R : ℕ → ℕ → Type 0) where
  number_covers : (n : ℕ) (v w : Way) → Covers R v w → number_takes n v ≡ true → number_takes n w ≡ true
  number_covers n _ _ (numbers {a} {b} {c} {e} l m) h = between a b c e n l m h
  number_covers n _ _ (lists r l m) h = h
  number_covers n _ _ (records c) h = h

  list_covers : (n : ℕ) (p q : ℕ → Bool) → ((k j : ℕ) → R k j → p k ≡ true → q j ≡ true) →
      (v w : Way) → Covers R v w → list_takes n p v ≡ true → list_takes n q w ≡ true
  list_covers n p q tells _ _ (numbers l m) h = h
  list_covers n p q tells _ _ (lists {k} {j} {a} {b} {c} {e} r l m) h =
      let s = and_parts (leb a n && leb n b) (p k) h in
      and_from (leb c n && leb n e) (q j) (between a b c e n l m s.0) (tells k j r s.1)
  list_covers n p q tells _ _ (records c) h = h

  record_covers : (p q : List Place → Bool) → ((ps qs : List Place) → CoversPlaces R ps qs → p ps ≡ true → q qs ≡ true) →
      (v w : Way) → Covers R v w → record_takes p v ≡ true → record_takes q w ≡ true
  record_covers p q tells _ _ (numbers l m) h = h
  record_covers p q tells _ _ (lists r l m) h = h
  record_covers p q tells _ _ (records {ps} {qs} c) h = tells ps qs c h

  -- Places that cover ones that need not be filled need not be filled either.
  none_must_covers : (ps qs : List Place) → CoversPlaces R ps qs → none_must ps ≡ true → none_must qs ≡ true
  unfolding none_must
  none_must_covers _ _ none h = h
  none_must_covers _ _ (both {p} {q} {ps} {qs} e r m c) h =
      let s = and_parts (not p.must) (none_must ps) h in
      let free = not_from_false q.must (m (not-true p.must s.0)) in
      and_from (not q.must) (none_must qs) free (none_must_covers ps qs c s.1)
  none_must_covers _ _ (more {q} {ps} {qs} m e c) h =
      and_from (not q.must) (none_must qs) (not_from_false q.must m) (none_must_covers ps qs c h)

  -- The place that a field finds is covered by the place that it finds among those that cover.
  found_covers : (x : ℕ) (t u : ℕ → List Place → Bool) →
      ((k j : ℕ) (ps qs : List Place) → R k j → CoversPlaces R ps qs → t k ps ≡ true → u j qs ≡ true) →
      (ps qs : List Place) → CoversPlaces R ps qs → if_found (find x ps) t ≡ true → if_found (find x qs) u ≡ true
  unfolding find
  found_covers x t u tells _ _ none h = h
  found_covers x t u tells _ _ (both {p} {q} {ps} {qs} e r m c) h =
      found_both x t u true p q ps qs e m (tells p.kind q.kind ps qs r c) (found_covers x t u tells ps qs c) h
  found_covers x t u tells _ _ (more {q} {ps} {qs} m e c) h =
      elim (cases_eq q.name x) [
        | inl i ↦ absurd (false≢true (rw (← i, e) at h))
        | inr other ↦ rw (find_past x q qs other m) (found_covers x t u tells ps qs c h)
      ]

-- If the ways of related kinds are covered, whatever the one form takes as a kind, the other takes as each related kind.
module _ (f g : Form) (R : ℕ → ℕ → Type 0) (covered : (k j : ℕ) → R k j → Covered R (ways_at f k) (ways_at g j)) where
  mutual
    unfolding takes

    pub covered_takes : (d : Paper) (k j : ℕ) → R k j → takes d f k ≡ true → takes d g j ≡ true
    covered_takes (num n) k j r h = covered_any R _ _ (number_covers R n) (covered k j r) h
    covered_takes (items ds) k j r h =
        covered_any R _ _ (list_covers R (count ds) (all_take ds f) (all_take ds g) (all_covered ds)) (covered k j r) h
    covered_takes (fields fs) k j r h =
        covered_any R _ _ (record_covers R (fields_take fs f) (fields_take fs g) (fields_covered fs)) (covered k j r) h

    all_covered : (ds : Papers) (k j : ℕ) → R k j → all_take ds f k ≡ true → all_take ds g j ≡ true
    all_covered no_items k j r h = h
    all_covered (item d ds) k j r h =
        let s = and_parts (takes d f k) (all_take ds f k) h in
        and_from (takes d g j) (all_take ds g j) (covered_takes d k j r s.0) (all_covered ds k j r s.1)

    fields_covered : (fs : Fields) (ps qs : List Place) → CoversPlaces R ps qs →
        fields_take fs f ps ≡ true → fields_take fs g qs ≡ true
    fields_covered no_fields ps qs c h = none_must_covers R ps qs c h
    fields_covered (field x d fs) ps qs c h =
        found_covers R x _ _ (λ k j ps qs r c h.
        let s = and_parts (takes d f k) (fields_take fs f ps) h in
        and_from (takes d g j) (fields_take fs g qs) (covered_takes d k j r s.0) (fields_covered fs ps qs c s.1))
        ps qs c h

-- If they are covered both ways, related kinds take the same papers.
pub alike_takes : (f g : Form) (R : ℕ → ℕ → Type 0) → ((k j : ℕ) → R k j → Alike R (ways_at f k) (ways_at g j)) →
    (d : Paper) (k j : ℕ) → R k j → takes d f k ≡ takes d g j
alike_takes f g R alike d k j r =
    same_from_decides {P = takes d f k ≡ true} (takes d f k) (takes d g j) (λ e. e, λ e. e)
    (covered_takes g f (λ j k. R k j) (λ j k r. (alike k j r).1) d j k r, covered_takes f g R (λ k j r. (alike k j r).0) d k j r)
