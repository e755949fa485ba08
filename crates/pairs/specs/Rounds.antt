-- One round: which pairs of a kind of one form and a set of kinds of another have a paper, given which have a flatter one. Assumes nothing:
-- these are definitions.
--
-- Of two forms f and g, a pair is a kind a of f and a set t of kinds of g. It has a paper if f takes some paper as a, and t is exactly the
-- set of the kinds of g that take that paper. Marks are any property of pairs.
use Rattle.std.specs.Prelude.{◌≡◌, ℕ, ◌<◌, ◌≤◌, true, false, List, [], ◌∷◌, length}
use Rattle.papers.specs.Paper.{Paper, well, deep}
use Rattle.forms.specs.declared.way.Place.{Place}
use Rattle.forms.specs.Form.{Form, Way, number, list, record_of, ways_at, way_at}
use Rattle.taking.specs.Masks.{kinds_of}
use Rattle.taking.specs.Takes.{takes}
use Rattle.pairs.specs.Looks.{Named, unnamed, named, Look, a_number, a_list, a_record, kinds_by, Inside}

abbrev pub Marks : Type 1
Marks = ℕ → ℕ → Type 0

-- A well made paper, at most r deep, that f takes as a and that has exactly the kinds t in g.
pub record HasPaper (f g : Form) (r a t : ℕ) (d : Paper) : Type 0 where
  pub well_made : well d ≡ true
  pub taken : takes d f a ≡ true
  pub exactly : kinds_of g d ≡ t
  pub flat : deep d ≤ r

abbrev pub Reach : Form → Form → ℕ → Marks
Reach f g r a t = (d : Paper) × HasPaper f g r a t d

-- All of these sets are marked at kind k.
pub data AllMarked (H : Marks) (k : ℕ) : List ℕ → Type 0 where
  none : AllMarked H k []
  more : {t : ℕ} {ts : List ℕ} → H k t → AllMarked H k ts → AllMarked H k (t ∷ ts)

-- Each place is left out, if it need not be filled, or filled with a set that is marked at its kind.
pub data Filled (H : Marks) : List Place → Named → Type 0 where
  none : Filled H [] unnamed
  left_out : {p : Place} {ps : List Place} {fs : Named} → p.must ≡ false → Filled H ps fs → Filled H (p ∷ ps) fs
  filled : {p : Place} {ps : List Place} {t : ℕ} {fs : Named} → H p.kind t → Filled H ps fs → Filled H (p ∷ ps) (named p.name t fs)

-- A look that a way takes, with marked sets for the parts: a number in the range; sets marked at the list's kind, as many as there may be; a record
-- with each place left out or filled.
pub data Fills (H : Marks) : Way → Look → Type 0 where
  number_fills : {a b n : ℕ} → a ≤ n → n ≤ b → Fills H (number a b) (a_number n)
  list_fills : {k a b : ℕ} {ts : List ℕ} → a ≤ length ts → length ts ≤ b → AllMarked H k ts → Fills H (list k a b) (a_list ts)
  record_fills : {ps : List Place} {fs : Named} → Filled H ps fs → Fills H (record_of ps) (a_record fs)

-- THE ROUND: some way of kind a gives t, by a look over the marks.
pub record Round (f g : Form) (H : Marks) (a t : ℕ) : Type 0 where
  pub way : ℕ
  pub there : way < length (ways_at f a)
  pub look : Look
  pub fills : Fills H (way_at f a way) look
  pub gives : kinds_by g look ≡ t

-- Whatever is marked in H is marked in M, or a smaller set is.
abbrev pub Under : Marks → Marks → Type 0
Under H M = (a t : ℕ) → H a t → (s : ℕ) × M a s × Inside s t
