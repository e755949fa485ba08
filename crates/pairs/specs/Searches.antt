-- What the searches of a round do to the table. Assumes nothing: these are definitions.
use Rattle.std.specs.Prelude.{◌≡◌, ℕ, suc, ◌-◌, ◌<◌, ◌≤◌, Bool, true, false, List, length, take}
use Rattle.papers.specs.Paper.{deep}
use Rattle.forms.specs.declared.way.Place.{Place}
use Rattle.forms.specs.Form.{Form, ways_at, way_at}
use Rattle.forms.specs.View.{form_of}
use Rattle.taking.specs.Masks.{test}
use Rattle.taking.specs.Sorted.{sorted_of}
use Rattle.pairs.specs.declared.table.Table.{Table}
use Rattle.pairs.specs.declared.round.Round.{Round}
use Rattle.pairs.specs.Laws.{Against}
use Rattle.pairs.specs.Looks.{Named, Look, a_number, a_list, a_record, kinds_by}
use Rattle.pairs.specs.Nodes.{NamesEarlier}
use Rattle.pairs.specs.Rounds.{HasPaper, AllMarked, Filled, Fills}
use Rattle.pairs.specs.Tables.{found_at, Marked, node_of, paper_of, HasUnder, pairs_found, minimal_at, mark_at, Listed}

-- The two forms of a question.
abbrev pub one_of : Round → Form
one_of R = form_of R.one.form

abbrev pub two_of : Round → Form
two_of R = sorted_of R.two

-- In a round over what papers at most R .depth deep gave: there are as many nodes as pairs found; every node names earlier ones only; each pair found has a paper at most one deeper,
-- that of its node; none is the answer; and each mark that the round sees has a paper at most R .depth deep.
pub record Running (R : Round) (T : Table) : Type 0 where
  pub rooms : (length T.nodes ≡ 64) × (length T.found ≡ 4) × ((a : ℕ) → a < 4 → length (found_at T.found a).nodes ≡ 16)
  pub many : T.count ≡ pairs_found T.found 4
  pub names : NamesEarlier (take T.count T.nodes)
  pub there : (a t : ℕ) → Marked T a t → node_of T a t < T.count
  pub papers : (a t : ℕ) → Marked T a t → HasPaper (one_of R) (two_of R) (suc R.depth) a t (paper_of T (node_of T a t))
  pub clean : (t : ℕ) → Marked T R.one.kind t → test t R.other ≡ true
  pub seen_there : (a i : ℕ) → i < length (minimal_at R.seen a) → (mark_at (minimal_at R.seen a) i).node < T.count
  pub seen : (a i : ℕ) → i < length (minimal_at R.seen a) →
      HasPaper (one_of R) (two_of R) R.depth a (mark_at (minimal_at R.seen a) i).set (paper_of T (mark_at (minimal_at R.seen a) i).node)

-- The round has found the answer: the last node's paper, at most one deeper.
pub record Stopped (R : Round) (T : Table) : Type 0 where
  pub room : length T.nodes ≡ 64
  pub some : 1 ≤ T.count
  pub few : T.count ≤ 64
  pub names : NamesEarlier (take T.count T.nodes)
  pub last : Against (one_of R) R.one.kind (two_of R) R.other (paper_of T (T.count - 1))
  pub flat : deep (paper_of T (T.count - 1)) ≤ suc R.depth

-- What was found stays; and if there is no node more, nothing has changed.
pub record Grown (T T' : Table) : Type 0 where
  pub more : T.count ≤ T'.count
  pub kept : (a t : ℕ) → Marked T a t → Marked T' a t
  pub still : T.count ≡ T'.count → T' ≡ T

-- What a search does to the table, and what holds of the table if it has not found the answer.
abbrev pub Tried : Round → Table → Table → (Table → Type 0) → Bool → Type 0
Tried R T T' P true = Stopped R T'
Tried R T T' P false = Running R T' × Grown T T' × P T'

-- Whatever looks so, as kind a, has a set under its own that was found.
abbrev pub Covered : Round → ℕ → Look → Table → Type 0
Covered R a l T = HasUnder T a (kinds_by (two_of R) l)

-- All numbers from one on and below another; all lists of so many marked papers; all records with these places; all looks of a way.
abbrev pub NumbersCovered : Round → ℕ → ℕ → ℕ → Table → Type 0
NumbersCovered R a from end T = (n : ℕ) → from ≤ n → n < end → Covered R a (a_number n) T

abbrev pub ListsCovered : Round → ℕ → ℕ → ℕ → ℕ → Table → Type 0
ListsCovered R a inner least end T =
    (ts : List ℕ) → least ≤ length ts → length ts < end → AllMarked (Listed R.seen) inner ts → Covered R a (a_list ts) T

abbrev pub RecordsCovered : Round → ℕ → List Place → Table → Type 0
RecordsCovered R a ps T = (fs : Named) → Filled (Listed R.seen) ps fs → Covered R a (a_record fs) T

abbrev pub WayCovered : Round → ℕ → ℕ → Table → Type 0
WayCovered R a w T = (l : Look) → Fills (Listed R.seen) (way_at (one_of R) a w) l → Covered R a l T

-- The first n ways of kind a; all ways of the first n kinds.
abbrev pub WaysCovered : Round → ℕ → ℕ → Table → Type 0
WaysCovered R a n T = (w : ℕ) → w < n → WayCovered R a w T

abbrev pub KindsCovered : Round → ℕ → Table → Type 0
KindsCovered R n T = (a : ℕ) → a < n → WaysCovered R a (length (ways_at (one_of R) a)) T
