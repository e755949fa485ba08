-- Forms: what they are, and what is asked of them. Assumes nothing.
use Rattle.std.specs.Prelude.{ℕ, ◌^◌, ◌<◌, ◌≤◌, Bool, true, false, ◌&&◌, List, [], ◌∷◌, length, get_or, nat_lt, slice_index_or}
use Rattle.papers.specs.declared.shape.Shape.{Shape as PaperShape}
use Rattle.papers.specs.declared.shape.Shape.TheVariants.{Number as NumberShape, List as ListShape, Record as RecordShape}
use Rattle.forms.specs.declared.way.Place.{Place}
use Rattle.forms.specs.declared.way.Way.{Way as Shape}
use Rattle.forms.specs.declared.way.Way.TheVariants.{Number, List as ListOf, Record}

-- One way in which a kind of paper may look.
pub data Way : Type 0 where
  -- a number: from, to
  number : ℕ → ℕ → Way
  -- a list of papers of a kind: at least so many, at most so many
  list : ℕ → ℕ → ℕ → Way
  -- a record: these places and no others
  record_of : List Place → Way

-- A form: for each kind of paper the ways in which it may look.
abbrev pub Form : Type 0
Form = List (List Way)

-- The ways of a kind, one of them, and its places; a kind that is not there has none.
abbrev pub ways_at : Form → ℕ → List Way
ways_at f k = slice_index_or f k []

abbrev pub way_at : Form → ℕ → ℕ → Way
way_at f k w = slice_index_or (ways_at f k) w (number 0 0)

abbrev pub places_of : Way → List Place
places_of (number a b) = []
places_of (list k a b) = []
places_of (record_of ps) = ps

abbrev pub no_place : Place
no_place = record { name = 0; kind = 0; must = false }

abbrev pub place_at : Form → ℕ → ℕ → ℕ → Place
place_at f k w i = slice_index_or (places_of (way_at f k w)) i no_place

-- A way as the code has it in hand: of a record only how many places it has.
abbrev pub shape : Way → Shape
shape (number a b) = Number a b
shape (list k a b) = ListOf k a b
shape (record_of ps) = Record (length ps)

-- The shape of the papers that it takes.
abbrev pub shape_of : Shape → PaperShape
shape_of (Number a b) = NumberShape
shape_of (ListOf k a b) = ListShape
shape_of (Record n) = RecordShape

abbrev pub shape_places : Shape → ℕ
shape_places (Number a b) = 0
shape_places (ListOf k a b) = 0
shape_places (Record n) = n

-- Proper: the places of every record stand by strictly rising name.
unfoldable pub rising : List Place → Bool
rising [] = true
rising (p ∷ []) = true
rising (p ∷ q ∷ ps) = nat_lt p.name q.name && rising (q ∷ ps)

unfoldable pub proper_ways : List Way → Bool
proper_ways [] = true
proper_ways (number a b ∷ ws) = proper_ways ws
proper_ways (list k a b ∷ ws) = proper_ways ws
proper_ways (record_of ps ∷ ws) = rising ps && proper_ways ws

unfoldable pub proper : Form → Bool
proper [] = true
proper (ws ∷ wss) = proper_ways ws && proper wss

-- Closed: every kind that a way names is there.
unfoldable pub KindsTherePlaces : ℕ → List Place → Type 0
KindsTherePlaces n [] = 0 ≤ n
KindsTherePlaces n (p ∷ ps) = (p.kind < n) × KindsTherePlaces n ps

unfoldable pub KindsThereWays : ℕ → List Way → Type 0
KindsThereWays n [] = 0 ≤ n
KindsThereWays n (number a b ∷ ws) = KindsThereWays n ws
KindsThereWays n (list k a b ∷ ws) = (k < n) × KindsThereWays n ws
KindsThereWays n (record_of ps ∷ ws) = KindsTherePlaces n ps × KindsThereWays n ws

unfoldable pub Closed : Form → Type 0
Closed f = (k : ℕ) → k < length f → KindsThereWays (length f) (slice_index_or f k [])

-- Bounded: at most so many kinds, of at most so many ways; ways with numbers below 2^32, lengths up to 16, and up to 4 places.
abbrev pub BoundedWay : Way → Type 0
BoundedWay (number a b) = (a < 2 ^ 32) × (b < 2 ^ 32)
BoundedWay (list k a b) = (a ≤ 16) × (b ≤ 16)
BoundedWay (record_of ps) = (length ps ≤ 4) × ((i : ℕ) → i < length ps → (get_or ps i no_place).name < 2 ^ 32)

pub record Bounded (kinds ways : ℕ) (f : Form) : Type 0 where
  pub some : 1 ≤ length f
  pub few : length f ≤ kinds
  pub few_ways : (k : ℕ) → k < length f → length (ways_at f k) ≤ ways
  pub each_way : (k w : ℕ) → k < length f → w < length (ways_at f k) → BoundedWay (way_at f k w)
