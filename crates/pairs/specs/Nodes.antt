-- What nodes mean. Assumes nothing: these are definitions.
--
-- A paper is shown as nodes, so that what stands in it twice is written once: each node is a number, a list of earlier nodes, or a record of
-- fields, each with a name and an earlier node. The last node is the paper.
use Rattle.std.specs.Prelude.{◌≡◌, ℕ, ◌<◌, ◌≤◌, List, [], ◌∷◌, ◌++◌, length, get_or, take, slice_index, slice_index_or}
use Rattle.papers.specs.Paper.{Paper, num, items, fields, Papers, no_items, item, Fields, no_fields, field}
use Rattle.pairs.specs.declared.node.Field.{Field}
use Rattle.pairs.specs.declared.node.Node.{Node}
use Rattle.pairs.specs.declared.node.Node.TheVariants.{Number, List as ListNode, Record}

-- The papers at these places among ds, and the fields that name them.
unfoldable pub papers_at : List Paper → List ℕ → Papers
papers_at ds [] = no_items
papers_at ds (i ∷ is) = item (slice_index_or ds i (num 0)) (papers_at ds is)

unfoldable pub fields_at : List Paper → List Field → Fields
fields_at ds [] = no_fields
fields_at ds (f ∷ fs) = field f.name (slice_index_or ds f.node (num 0)) (fields_at ds fs)

-- The paper of a node over the papers of the nodes before it.
abbrev pub node_paper : List Paper → Node → Paper
node_paper ds (Number n) = num n
node_paper ds (ListNode count nodes) = items (papers_at ds (take count nodes))
node_paper ds (Record count fs) = fields (fields_at ds (take count fs))

-- The papers of nodes, from the left: each is made over those before it.
unfoldable pub told_onto : List Paper → List Node → List Paper
told_onto ds [] = ds
told_onto ds (n ∷ ns) = told_onto (ds ++ node_paper ds n ∷ []) ns

abbrev pub told : List Node → List Paper
told ns = told_onto [] ns

-- A node has room for its parts, and names only nodes before place i.
abbrev pub NamesBelow : ℕ → Node → Type 0
NamesBelow i (Number n) = Unit {0}
NamesBelow i (ListNode count nodes) = (count ≤ 16) × ((p : ℕ) → p < count → slice_index nodes p < i)
NamesBelow i (Record count fs) = (count ≤ 4) × ((p : ℕ) → p < count → (get_or fs p (record { name = 0; node = 0 })).node < i)

-- Each node names only nodes before it.
abbrev pub NamesEarlier : List Node → Type 0
NamesEarlier ns = (i : ℕ) → i < length ns → NamesBelow i (slice_index_or ns i (Number 0))

-- A node more is a paper more, made over the papers before it, which stay as they are.
abbrev pub Appending : Type 0
Appending = (ns : List Node) (n : Node) → told (ns ++ n ∷ []) ≡ told ns ++ node_paper (told ns) n ∷ []
