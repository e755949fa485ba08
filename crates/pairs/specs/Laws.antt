-- What holds of rounds and of comparing, for all forms of any size and all papers of any depth. Each is a statement, a type; a function's contract
-- says that it holds. Assumes nothing: these are definitions.
use Rattle.std.specs.Prelude.{◌≡◌, ℕ, suc, ◌*◌, ◌^◌, ◌<◌, ◌≤◌, Bool, true, false, ◌⊎◌, length}
use Rattle.papers.specs.Paper.{Paper, well, deep}
use Rattle.forms.specs.Form.{Form, proper, Closed}
use Rattle.taking.specs.Masks.{kinds_of}
use Rattle.taking.specs.Takes.{takes}
use Rattle.taking.specs.Within.{Within}
use Rattle.pairs.specs.Looks.{kinds_by, look_of}
use Rattle.pairs.specs.Rounds.{Marks, Reach, Round, Under}

-- A paper that f takes as k and g does not take as j.
pub record Against (f : Form) (k : ℕ) (g : Form) (j : ℕ) (d : Paper) : Type 0 where
  pub well_made : well d ≡ true
  pub taken : takes d f k ≡ true
  pub not_taken : takes d g j ≡ false

-- None is flatter.
abbrev pub Flattest : Form → ℕ → Form → ℕ → Paper → Type 0
Flattest f k g j d = (e : Paper) → Against f k g j e → deep d ≤ deep e

-- THE MAIN THEOREM. Of any two forms: either every paper that the one takes the other takes too; or there is a paper that the one takes and the
-- other does not, no deeper than the kinds of the one times the sets of kinds of the other.
abbrev pub AlwaysDecided : Type 0
AlwaysDecided =
    (f g : Form) (k j : ℕ) → proper f ≡ true → proper g ≡ true → k < length f → j < length g →
    Within f k g j ⊎ ((d : Paper) × Against f k g j d × (deep d ≤ length f * 2 ^ length g))

-- The same, and the paper is one of the flattest; for all kinds, also such as are not there.
abbrev pub FlattestShown : Type 0
FlattestShown =
    (f g : Form) (k j : ℕ) → proper f ≡ true →
    Within f k g j ⊎ ((d : Paper) × Against f k g j d × Flattest f k g j d × (deep d ≤ length f * 2 ^ length g))

-- A kind takes no paper at all, or one that is no deeper than there are kinds.
abbrev pub EmptySeen : Type 0
EmptySeen =
    (f : Form) (k : ℕ) → proper f ≡ true → k < length f →
    ((d : Paper) → well d ≡ true → takes d f k ≡ false)
    ⊎ ((d : Paper) × (well d ≡ true) × (takes d f k ≡ true) × (deep d ≤ length f))

-- For every paper that the one takes and the other does not, there is one that is no deeper than it, and no deeper than the bound.
abbrev pub FlatEnough : Type 0
FlatEnough =
    (f g : Form) (k j : ℕ) (d : Paper) → proper f ≡ true → proper g ≡ true → k < length f → j < length g → Closed f → Closed g →
    Against f k g j d →
    (e : Paper) × Against f k g j e × (deep e ≤ length f * 2 ^ length g) × (deep e ≤ deep d)

-- The kinds of a paper are a function of the kinds of its parts.
abbrev pub KindsByParts : Type 0
KindsByParts = (g : Form) (d : Paper) → kinds_of g d ≡ kinds_by g (look_of g d)

-- The round is complete: a pair that has a paper at most r + 1 deep is given over those that have one at most r deep.
abbrev pub RoundComplete : Type 0
RoundComplete = (f g : Form) (r a t : ℕ) → Reach f g (suc r) a t → Round f g (Reach f g r) a t

-- The round is sound: a pair that is given has a paper, one deeper at most.
abbrev pub RoundSound : Type 0
RoundSound = (f g : Form) (r a t : ℕ) → proper f ≡ true → Round f g (Reach f g r) a t → Reach f g (suc r) a t

-- In what follows marks are given by a test.
abbrev pub Passing : (ℕ → ℕ → Bool) → Marks
Passing p a t = p a t ≡ true

-- More marks give no less.
abbrev pub RoundMonotone : Type 0
RoundMonotone =
    (f g : Form) (p q : ℕ → ℕ → Bool) → ((a t : ℕ) → Passing p a t → Passing q a t) →
    (a t : ℕ) → Round f g (Passing p) a t → Round f g (Passing q) a t

-- Dominated sets need not be kept: if every mark of p has one of q under it, so has every pair that a round over p gives, in a round over q.
abbrev pub Dominated : Type 0
Dominated = (f g : Form) (p q : ℕ → ℕ → Bool) → Under (Passing p) (Passing q) → Under (Round f g (Passing p)) (Round f g (Passing q))

-- Marks that a round adds nothing to miss no paper, of any depth.
abbrev pub AddsNothing : Type 0
AddsNothing = (f g : Form) (p : ℕ → ℕ → Bool) → Under (Round f g (Passing p)) (Passing p) → (r : ℕ) → Under (Reach f g r) (Passing p)

-- Marks that are exactly the pairs with a paper at most r deep become, in a round, exactly those with one at most r + 1 deep.
abbrev pub ExactNext : Type 0
ExactNext =
    (f g : Form) (r : ℕ) (p : ℕ → ℕ → Bool) → proper f ≡ true →
    ((a t : ℕ) → (Passing p a t → Reach f g r a t) × (Reach f g r a t → Passing p a t)) →
    (a t : ℕ) → (Round f g (Passing p) a t → Reach f g (suc r) a t) × (Reach f g (suc r) a t → Round f g (Passing p) a t)

-- Marks that have one under every pair with a paper at most r deep have, after a round, one under every pair with a paper at most r + 1 deep.
abbrev pub NextRound : Type 0
NextRound =
    (f g : Form) (r : ℕ) (p q : ℕ → ℕ → Bool) →
    Under (Reach f g r) (Passing p) → Under (Round f g (Passing p)) (Passing q) → Under (Reach f g (suc r)) (Passing q)
