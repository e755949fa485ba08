-- What a table holds: the pairs found, each with its node. Assumes nothing: these are definitions.
use Rattle.std.specs.Prelude.{◌≡◌, ℕ, zero, suc, ◌+◌, ◌^◌, ◌<◌, Bool, true, List, [], length, take, bit_or, slice_index, slice_index_or, slice_set}
use Rattle.arrayvec.specs.ArrayVec.{ArrayVec}
use Rattle.papers.specs.Paper.{Paper, num}
use Rattle.taking.specs.Masks.{bit, test}
use Rattle.pairs.specs.declared.table.Found.{Found}
use Rattle.pairs.specs.declared.table.Table.{Table}
use Rattle.pairs.specs.declared.minimal.Mark.{Mark}
use Rattle.pairs.specs.Looks.{Inside}
use Rattle.pairs.specs.Nodes.{told}
use Rattle.pairs.specs.Rounds.{Marks}

-- What was found of a kind; nothing of a kind that is not there.
abbrev pub found_at : List Found → ℕ → Found
found_at fs a = slice_index_or fs a (record { sets = 0; nodes = [] })

-- The pair was found, and has this node.
abbrev pub Marked : Table → Marks
Marked T a t = test (found_at T.found a).sets t ≡ true

abbrev pub node_of : Table → ℕ → ℕ → ℕ
node_of T a t = slice_index (found_at T.found a).nodes t

-- The papers of its nodes.
abbrev pub papers_of : Table → List Paper
papers_of T = told (take T.count T.nodes)

abbrev pub paper_of : Table → ℕ → Paper
paper_of T i = slice_index_or (papers_of T) i (num 0)

-- A set inside t was found of kind a.
abbrev pub HasUnder : Table → ℕ → ℕ → Type 0
HasUnder T a t = (s : ℕ) × Marked T a s × Inside s t

-- How many numbers below n pass a test; how many pairs were found of the first n kinds.
unfoldable pub how_many : (ℕ → Bool) → ℕ → ℕ
how_many p zero = 0
how_many p (suc n) = how_many p n + bit (p n)

unfoldable pub pairs_found : List Found → ℕ → ℕ
pairs_found fs zero = 0
pairs_found fs (suc n) = pairs_found fs n + how_many (test (found_at fs n).sets) 16

-- What a round sees of a kind: these marks, each a set with its node.
abbrev pub minimal_at : List (ArrayVec Mark) → ℕ → List Mark
minimal_at ms a = (slice_index_or ms a (record { items = [] })).items

abbrev pub mark_at : List Mark → ℕ → Mark
mark_at m i = slice_index_or m i (record { set = 0; node = 0 })

abbrev pub ListedIn : List Mark → ℕ → Type 0
ListedIn m t = (i : ℕ) × (i < length m) × ((mark_at m i).set ≡ t)

abbrev pub Listed : List (ArrayVec Mark) → Marks
Listed ms a t = ListedIn (minimal_at ms a) t

-- With one set more, and its node.
abbrev pub with_set : Found → ℕ → ℕ → Found
with_set f t i = record { sets = bit_or f.sets (2 ^ t); nodes = slice_set f.nodes t i }

abbrev pub MarkedAt : ℕ → ℕ → Table → Type 0
MarkedAt a t T = Marked T a t
