-- What a record way makes of the fields that are read. Assumes nothing: these are definitions.
use Rattle.std.specs.Prelude.{◌≡◌, ℕ, ◌+◌, ◌<◌, Bool, true, false, cond, List, Option, Some, None, length, drop, ◌==◌, slice_index_or}
use Rattle.forms.specs.declared.way.Place.{Place}
use Rattle.forms.specs.Form.{no_place}
use Rattle.taking.specs.Masks.{test}
use Rattle.taking.specs.Takes.{Found, at, nowhere, none_must, find}

-- How far way i has come: at its first place, if nothing is said of it.
abbrev pub progress_at : List (Option ℕ) → ℕ → Option ℕ
progress_at ps i = slice_index_or ps i (Some 0)

-- A record way that has come so far takes a record that ends there.
abbrev pub ends_well : Option ℕ → List Place → Bool
ends_well (Some i) ps = none_must (drop i ps)
ends_well None ps = false

-- What becomes of a way whose place for a field was looked for among its places: it goes on behind that place if the place's kind takes the
-- field's paper, that is, if it is one of the kinds m; else it does not take the fields.
abbrev pub GoesOn : ℕ → Found → List Place → Option ℕ → Type 0
GoesOn m (at k qs) ps (Some i) = (test m k ≡ true) × (qs ≡ drop i ps)
GoesOn m (at k qs) ps None = test m k ≡ false
GoesOn m nowhere ps (Some i) = ⊥
GoesOn m nowhere ps None = Unit {0}

-- The same for a way that has come so far; one that does not take the fields stays so.
abbrev pub Advances : ℕ → ℕ → List Place → Option ℕ → Option ℕ → Type 0
Advances x m ps (Some i) q = GoesOn m (find x (drop i ps)) ps q
Advances x m ps None q = q ≡ None

-- The search for a name from a place on ends at place i, which is q: there are no more than four, and what is found is this place, if it has
-- the name.
pub record StopsAt (x from : ℕ) (ps : List Place) (at_place : ℕ × Place) : Type 0 where
  pub there : at_place.0 < length ps
  pub few : at_place.0 < 4
  pub kind : at_place.1.kind < 16
  pub is : at_place.1 ≡ slice_index_or ps at_place.0 no_place
  pub found : find x (drop from ps) ≡ cond (at_place.1.name == x) (at at_place.1.kind (drop (at_place.0 + 1) ps)) nowhere
