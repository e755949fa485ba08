-- Where a field finds its place, one place at a time.
use Rattle.std.proofs.Common.{◌≡◌, ℕ, Bool, true, false, ◌⊎◌, List, ◌∷◌, sym, ◌∙◌, inl, inr}
use Rattle.std.proofs.lemmas.Bool.{cases_eq, cases_Bool, eq-eqb, ne_eqb, false≢true}
use Rattle.forms.specs.declared.way.Place.{Place}
use Rattle.taking.specs.Takes.{at, nowhere, find, if_found}

-- The first place has the name; or another, and it must be filled; or another, and it need not be filled.
pub find_here : (x : ℕ) (p : Place) (ps : List Place) → p.name ≡ x → find x (p ∷ ps) ≡ at p.kind ps
unfolding find
find_here x p ps e = rw (eq-eqb p.name x e)

pub find_stops : (x : ℕ) (p : Place) (ps : List Place) → (p.name ≡ x → ⊥) → p.must ≡ true → find x (p ∷ ps) ≡ nowhere
unfolding find
find_stops x p ps other m = rw (ne_eqb p.name x other, m)

pub find_past : (x : ℕ) (p : Place) (ps : List Place) → (p.name ≡ x → ⊥) → p.must ≡ false → find x (p ∷ ps) ≡ find x ps
unfolding find
find_past x p ps other m = rw (ne_eqb p.name x other, m)

-- Two lists of places begin with one name, and the second's first place must be filled only if the first's must. What is found in
-- the first passes the test t. If then the test u of what is found in the second comes to b, both where the first places are found
-- and where later ones are, it comes to b.
pub found_both : (x : ℕ) (t u : ℕ → List Place → Bool) (b : Bool) (p q : Place) (ps qs : List Place) →
    p.name ≡ q.name → (p.must ≡ false → q.must ≡ false) → (t p.kind ps ≡ true → u q.kind qs ≡ b) →
    (if_found (find x ps) t ≡ true → if_found (find x qs) u ≡ b) →
    if_found (find x (p ∷ ps)) t ≡ true → if_found (find x (q ∷ qs)) u ≡ b
found_both x t u b p q ps qs e m first later h = go (cases_eq p.name x) (cases_Bool p.must)
  where
    go : (p.name ≡ x) ⊎ (p.name ≡ x → ⊥) → (p.must ≡ true) ⊎ (p.must ≡ false) → if_found (find x (q ∷ qs)) u ≡ b
    go (inl i) _ = rw (find_here x q qs (sym e ∙ i)) (first (rw (find_here x p ps i) at h))
    go (inr other) (inl n) = absurd (false≢true (rw (find_stops x p ps other n) at h))
    go (inr other) (inr n) =
        rw (find_past x q qs (λ i. other (e ∙ i)) (m n)) (later (rw (find_past x p ps other n) at h))
