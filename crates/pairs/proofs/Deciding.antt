-- Which pairs have a paper can be decided, and no paper need be deeper than there are pairs; so of any two forms it can be told whether the one takes
-- no more than the other, with a flattest paper if not.
use Rattle.std.proofs.Common.{◌≡◌, ℕ, zero, suc, ◌*◌, ◌^◌, ◌<◌, ◌≤◌, true, false, ◌⊎◌, [], length, sym, refl, ap, ◌∙◌, inl, inr, arith}
use mathlib.Core.Logic.Dec
use native.Mathlib.Decide.{map_dec}
use Rattle.std.proofs.lemmas.Bool.{cases_lt, cases_Bool, both_ways}
use Rattle.papers.specs.Paper.{Paper, deep}
use Rattle.forms.specs.Form.{Form, proper}
use Rattle.taking.specs.Masks.{test, kinds_of}
use Rattle.taking.specs.Takes.{takes}
use Rattle.taking.specs.Within.{Within}
use Rattle.taking.proofs.Folding.{none_there, test_kinds}
use Rattle.taking.proofs.Masks.{mask_lt}
use Rattle.pairs.specs.Laws.{Against, Flattest, AlwaysDecided, FlattestShown, EmptySeen, FlatEnough}
use Rattle.pairs.specs.Rounds.{Reach}
use Rattle.pairs.proofs.Counting.{family_stands}
use Rattle.pairs.proofs.Rounding.{has_deeper, round_complete, round_sound, round_monotone, deep_some}
use Rattle.pairs.proofs.Searching.{is_false, Least, least, search_below, round_decided}

-- A set is of kinds that are there, and so is the kind of a pair that has a paper.
pub kinds_few : (g : Form) (d : Paper) → kinds_of g d < 2 ^ length g
unfolding kinds_of
kinds_few g d = mask_lt (takes d g) (length g)

pub reach_set : (f g : Form) (r a t : ℕ) → Reach f g r a t → t < 2 ^ length g
reach_set f g r a t h = omega (arith, kinds_few g h.0, h.1.exactly)

pub reach_kind : (f g : Form) (r a t : ℕ) → Reach f g r a t → a < length f
reach_kind f g r a t h =
    elim (cases_lt a (length f)) [ inl l ↦ l | inr l ↦ absurd (both_ways (takes h.0 f a) (none_there h.0 f a l) h.1.taken) ]

pub reach_none : (f g : Form) (a t : ℕ) → Reach f g 0 a t → ⊥
reach_none f g a t h = omega (arith, deep_some h.0, h.1.flat)

module _ (f g : Form) (e : proper f ≡ true) where
  pub reach_decided : (r a t : ℕ) → Dec (Reach f g r a t)
  reach_decided zero a t = no (reach_none f g a t)
  reach_decided (suc r) a t =
      map_dec (round_sound f g r a t e) (round_complete f g r a t)
      (round_decided (Reach f g r) (reach_decided r) (2 ^ length g) (reach_set f g r) f g a t)

  -- Where no pair comes in, none comes in later.
  still : (r : ℕ) → ((a t : ℕ) → Reach f g (suc r) a t → Reach f g r a t) → (s a t : ℕ) → Reach f g s a t → Reach f g r a t
  still r stands zero a t h = absurd (reach_none f g a t h)
  still r stands (suc s) a t h =
      stands a t (round_sound f g r a t e (round_monotone f g (Reach f g s) (Reach f g r) (still r stands s) a t (round_complete f g s a t h)))

  -- A PAIR THAT HAS A PAPER HAS ONE THAT IS NO DEEPER THAN THERE ARE PAIRS.
  pub flat_reach : (s a t : ℕ) → Reach f g s a t → Reach f g (length f * 2 ^ length g) a t
  flat_reach s a t h =
      let q = family_stands (Reach f g) reach_decided (λ r a t h. (h.0, has_deeper (suc r) (omega arith) h.1)) (length f) (2 ^ length g) in
      let p = still q.0 (λ a t h. q.2 a t (reach_kind f g (suc q.0) a t h) (reach_set f g (suc q.0) a t h) h) s a t h in
      (p.0, has_deeper (length f * 2 ^ length g) q.1 p.1)

-- A paper against, as a pair: its set lacks the kind.
Missed : (f : Form) (k : ℕ) (g : Form) (j r : ℕ) → Type 0
Missed f k g j r = (t : ℕ) × (t < 2 ^ length g) × ((test t j ≡ false) × Reach f g r k t)

missed_against : (f : Form) (k : ℕ) (g : Form) (j r : ℕ) → Missed f k g j r → (d : Paper) × Against f k g j d × (deep d ≤ r)
unfolding Missed
missed_against f k g j r m =
    let d = m.2.1.0 in
    let h = m.2.1.1 in (
      d,
      record { well_made = h.well_made; taken = h.taken; not_taken = sym (test_kinds g d j) ∙ ap (λ t. test t j) h.exactly ∙ m.2.0 },
      h.flat,
    )

against_missed : (f : Form) (k : ℕ) (g : Form) (j r : ℕ) (d : Paper) → Against f k g j d → deep d ≤ r → Missed f k g j r
unfolding Missed
against_missed f k g j r d h l = (
  kinds_of g d,
  kinds_few g d,
  (test_kinds g d j ∙ h.not_taken, (d, record { well_made = h.well_made; taken = h.taken; exactly = refl; flat = l })),
)

missed_flat : (f : Form) (k : ℕ) (g : Form) (j r : ℕ) → proper f ≡ true → Missed f k g j r → Missed f k g j (length f * 2 ^ length g)
unfolding Missed
missed_flat f k g j r e m = (m.0, m.1, (m.2.0, flat_reach f g e r k m.0 m.2.1))

missed_decided : (f : Form) (k : ℕ) (g : Form) (j : ℕ) → proper f ≡ true → (r : ℕ) → Dec (Missed f k g j r)
unfolding Missed
missed_decided f k g j e r =
    search_below (λ t. (test t j ≡ false) × Reach f g r k t) (λ t. Dec.and (is_false (test t j)) (reach_decided f g e r k t)) (2 ^ length g)

-- THE FLATTEST PAPER AGAINST, or that there is none.
pub flattest_shown : FlattestShown
flattest_shown f g k j e = go (least (Missed f k g j) (missed_decided f k g j e) (suc (length f * 2 ^ length g)))
  where
    n : ℕ
    n = length f * 2 ^ length g

    go : Least (Missed f k g j) (suc n) ⊎ ((r : ℕ) → Missed f k g j r → suc n ≤ r) →
        Within f k g j ⊎ ((d : Paper) × Against f k g j d × Flattest f k g j d × (deep d ≤ n))
    go (inl s) =
        let p = missed_against f k g j s.0 s.2 in
        inr (p.0, p.1, λ c h. omega (arith, p.2, s.3 (deep c) (against_missed f k g j (deep c) c h (omega arith))), omega (arith, p.2, s.1))
    go (inr none) = inl λ d w t. elim (cases_Bool (takes d g j)) [ inl y ↦ y | inr m ↦ absurd (missing d (record { well_made = w; taken = t; not_taken = m })) ]
      where
        missing : (d : Paper) → Against f k g j d → ⊥
        missing d h =
            let flat = missed_flat f k g j (deep d) e (against_missed f k g j (deep d) d h (omega arith)) in
            omega (arith, none n flat)

pub always_decided : AlwaysDecided
always_decided f g k j e _ _ _ = elim (flattest_shown f g k j e) [ inl w ↦ inl w | inr s ↦ inr (s.0, s.1, s.3) ]

pub flat_enough : FlatEnough
flat_enough f g k j d e _ _ _ _ _ h =
    elim (flattest_shown f g k j e) [
      | inl w ↦ absurd (both_ways (takes d g j) h.not_taken (w d h.well_made h.taken))
      | inr s ↦ (s.0, s.1, s.3, s.2 d h)
    ]

-- A form with no kinds takes nothing, so that what is against it is whatever is taken.
pub empty_seen : EmptySeen
empty_seen f k e _ =
    elim (flattest_shown f [] k 0 e) [
      | inl w ↦ inl λ d m. elim (cases_Bool (takes d f k)) [ inl t ↦ absurd (both_ways (takes d [] 0) (none_there d [] 0 (omega arith)) (w d m t)) | inr n ↦ n ]
      | inr s ↦ inr (s.0, s.1.well_made, s.1.taken, omega (arith, s.3))
    ]
