-- The places of a record way, one at a time. Assumes nothing.
use Rattle.std.proofs.Common.{◌≡◌, ℕ, zero, suc, ◌+◌, ◌<◌, Bool, true, false, cond, not, ◌&&◌, ◌||◌, eqb, List, [], ◌∷◌, Option, Some, None, length, get_or, drop, sym, refl, ap, subst, ◌∙◌, arith}
use Rattle.std.specs.Bool.{then_some}
use Rattle.std.specs.List.{list_all, find as first_of, enumerate_from}
use Rattle.std.specs.Option.{MatchOption, option_map}
use Rattle.std.proofs.lemmas.List.{at_drop_more, get_or-drop, drop-drop, length-drop}
use Rattle.std.proofs.lemmas.Bool.{false≢true}
use Rattle.papers.specs.declared.shape.Shape.TheVariants.{Record}
use Rattle.forms.specs.declared.way.Place.{Place}
use Rattle.forms.specs.declared.view.WayView.{WayView}
use Rattle.forms.specs.Form.{Way, number, list, record_of, shape, shape_of, places_of, no_place}
use Rattle.forms.specs.Layout.{place_in}
use Rattle.forms.specs.View.{way_of}
use Rattle.forms.proofs.Fitting.{places_few}
use Rattle.forms.proofs.Views.{way_keeps, way_place}
use Rattle.taking.specs.Masks.{test}
use Rattle.taking.specs.Advance.{GoesOn, Advances, StopsAt}
use Rattle.taking.specs.Takes.{Found, at, nowhere, find, none_must, record_takes}
use Rattle.taking.proofs.Finding.{find_here as here, find_stops as stops_here}

-- a way that is a record
pub record_way : (q : List Place → Bool) (w : Way) → shape_of (shape w) ≡ Record → record_takes q w ≡ q (places_of w)
record_way q (number a b) e = let z : ◌≡◌ {A = ℕ} 0 1 = cc in absurd (omega arith)
record_way q (list k a b) e = let z : ◌≡◌ {A = ℕ} 0 1 = cc in absurd (omega arith)
record_way q (record_of ps) e = refl

-- none of the places must be filled
pub all_need_not : (ps : List Place) → list_all (λ p. not p.must) ps ≡ none_must ps
unfolding none_must
all_need_not [] = refl
all_need_not (p ∷ ps) = ap (λ b. not p.must && b) (all_need_not ps)

-- the search for a name from place i on, which is p
module _ (ps : List Place) (i : ℕ) (p : Place) (there : i < length ps) (is : p ≡ get_or ps i no_place) where
  from_place : (x : ℕ) → find x (drop i ps) ≡ find x (p ∷ drop (i + 1) ps)
  from_place x = at_drop_more (find x) ps i no_place there ∙ ap (λ q. find x (q ∷ drop (i + 1) ps)) (sym is)

  pub find_here : (x : ℕ) → p.name ≡ x → find x (drop i ps) ≡ at p.kind (drop (i + 1) ps)
  find_here x e = from_place x ∙ here x p (drop (i + 1) ps) e

  pub find_stops : (x : ℕ) → (p.name ≡ x → ⊥) → p.must ≡ true → find x (drop i ps) ≡ nowhere
  find_stops x other m = from_place x ∙ stops_here x p (drop (i + 1) ps) other m

-- the search for a name stops at a place, or passes it
abbrev pub stops : ℕ → Place → Bool
stops x p = eqb p.name x || p.must

stopped : (here must : Bool) (a b : Found) → (here || must) ≡ true → cond here a (cond must nowhere b) ≡ cond here a nowhere
stopped true must a b e = refl
stopped false true a b e = refl
stopped false false a b e = absurd (false≢true e)

passed : (here must : Bool) (a b : Found) → (here || must) ≡ false → cond here a (cond must nowhere b) ≡ b
passed true must a b e = absurd (false≢true (sym e))
passed false true a b e = absurd (false≢true (sym e))
passed false false a b e = refl

-- place i of these is where the search ends, and they are numbered from n
record Ends (x n : ℕ) (ps : List Place) (q : ℕ × Place) : Type 0 where
  pub i : ℕ
  pub here : q.0 ≡ n + i
  pub there : i < length ps
  pub is : q.1 ≡ get_or ps i no_place
  pub found : find x ps ≡ cond (eqb q.1.name x) (at q.1.kind (drop (i + 1) ps)) nowhere

one_later : (x n : ℕ) (p : Place) (ps : List Place) (q : ℕ × Place) → find x (p ∷ ps) ≡ find x ps → Ends x (n + 1) ps q → Ends x n (p ∷ ps) q
one_later x n p ps q e h = record {
  i = suc h.i;
  here = omega (arith, h.here);
  there = omega (arith, h.there);
  is = h.is;
  found = e ∙ h.found ∙ ap (λ k. cond (eqb q.1.name x) (at q.1.kind (drop k (p ∷ ps))) nowhere) more;
}
  where
    more : suc (h.i + 1) ≡ suc h.i + 1
    more = omega arith

ends : (x n : ℕ) (ps : List Place) (r : Option (ℕ × Place)) → r ≡ first_of (λ q. stops x q.1) (enumerate_from n ps) → MatchOption r (find x ps ≡ nowhere) (Ends x n ps)
unfolding find
ends x n [] None e = refl
ends x n [] (Some q) e = cc
ends x n (p ∷ ps) r e = by (stops x p) refl e (ends x (n + 1) ps r)
  where
    by : (b : Bool) → b ≡ stops x p → r ≡ cond b (Some (n, p)) (first_of (λ q. stops x q.1) (enumerate_from (n + 1) ps)) →
        (r ≡ first_of (λ q. stops x q.1) (enumerate_from (n + 1) ps) → MatchOption r (find x ps ≡ nowhere) (Ends x (n + 1) ps)) → MatchOption r (find x (p ∷ ps) ≡ nowhere) (Ends x n (p ∷ ps))
    by true s f behind = subst (λ o. MatchOption o (find x (p ∷ ps) ≡ nowhere) (Ends x n (p ∷ ps))) (sym f) (record {
      i = 0;
      here = omega arith;
      there = omega arith;
      is = refl;
      found = stopped (eqb p.name x) p.must (at p.kind ps) (find x ps) (sym s);
    })
    by false s f behind = later r (behind f)
      where
        past : find x (p ∷ ps) ≡ find x ps
        past = passed (eqb p.name x) p.must (at p.kind ps) (find x ps) (sym s)

        later : (o : Option (ℕ × Place)) → MatchOption o (find x ps ≡ nowhere) (Ends x (n + 1) ps) → MatchOption o (find x (p ∷ ps) ≡ nowhere) (Ends x n (p ∷ ps))
        later None h = past ∙ h
        later (Some q) h = one_later x n p ps q past h

-- from a place on
drop_numbered : (n from : ℕ) (ps : List Place) → drop from (enumerate_from n ps) ≡ enumerate_from (n + from) (drop from ps)
drop_numbered n zero ps = ap (λ k. enumerate_from k ps) (omega arith)
drop_numbered n (suc from) [] = refl
drop_numbered n (suc from) (p ∷ ps) = drop_numbered (n + 1) from ps ∙ ap (λ k. enumerate_from k (drop from ps)) (omega arith)

same_option : (r : Option (ℕ × Place)) → r ≡ option_map {T = ℕ × Place} {U = ℕ × Place} (λ q. (q.0, q.1)) r
same_option None = refl
same_option (Some q) = refl

kind_few : (v : WayView) (i : ℕ) → i < length (places_of (way_of v)) → (get_or (places_of (way_of v)) i no_place).kind < 16
unfolding place_in
kind_few v i l = let p = way_place v i l in subst (λ q. q.kind < 16) (sym p.is) p.fits.kind

pub find_told : (v : WayView) (x from : ℕ) (r : Option (ℕ × Place)) →
    option_map {T = ℕ × Place} {U = ℕ × Place} (λ q. (q.0, q.1)) r ≡ first_of (λ q. stops x q.1) (drop from (enumerate_from 0 (places_of (way_of v)))) →
    MatchOption r (find x (drop from (places_of (way_of v))) ≡ nowhere) (StopsAt x from (places_of (way_of v)))
find_told v x from r e = told r (ends x from (drop from ps) r (same_option r ∙ e ∙ ap (first_of (λ q. stops x q.1)) (drop_numbered 0 from ps ∙ ap (λ k. enumerate_from k (drop from ps)) zero_more)))
  where
    ps : List Place
    ps = places_of (way_of v)

    zero_more : 0 + from ≡ from
    zero_more = omega arith

    told : (o : Option (ℕ × Place)) → MatchOption o (find x (drop from ps) ≡ nowhere) (Ends x from (drop from ps)) → MatchOption o (find x (drop from ps) ≡ nowhere) (StopsAt x from ps)
    told None h = h
    told (Some q) h =
        let there : q.0 < length ps = omega (arith, h.here, h.there, length-drop from ps) in
        let is : q.1 ≡ get_or ps q.0 no_place = h.is ∙ get_or-drop from ps h.i no_place ∙ ap (λ k. get_or ps k no_place) (sym h.here) in
        record {
          there = there;
          few = omega (arith, places_few 16 (way_of v) (way_keeps v));
          is = is;
          kind = subst (λ p. p.kind < 16) (sym is) (kind_few v q.0 there);
          found = h.found ∙ ap (λ qs. cond (eqb q.1.name x) (at q.1.kind qs) nowhere) (drop-drop (h.i + 1) from ps ∙ ap (λ k. drop k ps) (omega (arith, h.here)));
        }

-- what becomes of a way that has come so far, where the search for its place ended at a place
goes : (b t : Bool) (m i k : ℕ) (ps : List Place) → t ≡ test m k → GoesOn m (cond b (at k (drop (i + 1) ps)) nowhere) ps (then_some (b && t) (i + 1))
goes true true m i k ps e = (sym e, refl)
goes true false m i k ps e = sym e
goes false t m i k ps e = tt

pub goes_on : (x m from : ℕ) (q : ℕ × Place) (ps : List Place) (p : Option ℕ) (taken : Bool) → p ≡ Some from → StopsAt x from ps q →
    taken ≡ (eqb q.1.name x && test m q.1.kind) → Advances x m ps p (then_some taken (q.0 + 1))
goes_on x m from q ps p taken s stop e = rw (s, stop.found, e) (goes (eqb q.1.name x) (test m q.1.kind) m q.0 q.1.kind ps refl)
