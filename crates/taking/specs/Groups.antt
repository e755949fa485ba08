-- The ways of one shape in a form, listed by kind and way. Assumes nothing: these are definitions.
use Rattle.std.specs.Prelude.{◌≡◌, ℕ, ◌<◌, ◌≤◌, Bool, true, ◌&&◌, List, length, ◌==◌, slice_index_or}
use Rattle.papers.specs.declared.shape.Shape.{Shape}
use Rattle.forms.specs.declared.way.Place.{Place}
use Rattle.forms.specs.Form.{Form, Way, shape, shape_of, ways_at, way_at, places_of}
use Rattle.taking.specs.declared.group.WayAt.{WayAt}
use Rattle.taking.specs.Masks.{mask, some_below}

-- The shape of the papers that a way takes.
abbrev pub shape_taken : Way → Shape
shape_taken w = shape_of (shape w)

-- Entry i of a list of ways.
abbrev pub entry : List WayAt → ℕ → WayAt
entry ws i = slice_index_or ws i (record { kind = 0; way = 0 })

-- The way that it is, and its places.
abbrev pub listed_way : Form → List WayAt → ℕ → Way
listed_way f ws i = way_at f (entry ws i).kind (entry ws i).way

abbrev pub listed_places : Form → List WayAt → ℕ → List Place
listed_places f ws i = places_of (listed_way f ws i)

-- It is way w of kind k.
unfoldable pub stands_at : List WayAt → ℕ → ℕ → ℕ → Bool
stands_at ws k w i = (entry ws i).kind == k && (entry ws i).way == w

-- The ways of a form that have the shape are listed: there is room, each entry is a way of the form that has the shape, and all such ways
-- are among them.
pub record Lists (s : Shape) (f : Form) (ws : List WayAt) : Type 0 where
  pub few : length ws ≤ 144
  pub kind : (i : ℕ) → i < length ws → (entry ws i).kind < length f
  pub way : (i : ℕ) → i < length ws → (entry ws i).way < length (ways_at f (entry ws i).kind)
  pub shaped : (i : ℕ) → i < length ws → shape_taken (listed_way f ws i) ≡ s
  pub all : (k w : ℕ) → k < length f → w < length (ways_at f k) → shape_taken (way_at f k w) ≡ s → some_below (stands_at ws k w) (length ws) ≡ true

-- Some entry below n is a way of kind k that sees, where `sees w i` says whether the way w, as entry i, does.
unfoldable pub sees_as : (Way → ℕ → Bool) → Form → List WayAt → ℕ → ℕ → Bool
sees_as sees f ws k i = (entry ws i).kind == k && sees (listed_way f ws i) i

abbrev pub kind_sees : (Way → ℕ → Bool) → Form → List WayAt → ℕ → ℕ → Bool
kind_sees sees f ws n k = some_below (sees_as sees f ws k) n

-- The kinds of a form of which an entry sees.
unfoldable pub kinds_seen : (Way → ℕ → Bool) → Form → List WayAt → ℕ
kinds_seen sees f ws = mask (kind_sees sees f ws (length ws)) (length f)
