-- When one form takes no more than another, and what follows. Each statement here is a type; a function's contract says that it
-- holds. Assumes nothing: these are definitions.
use Rattle.std.specs.Prelude.{◌≡◌, ℕ, ◌+◌, ◌<◌, ◌≤◌, true, false, List, [], ◌∷◌, ◌++◌, length, set}
use Rattle.papers.specs.Paper.{Paper, well}
use Rattle.forms.specs.declared.way.Place.{Place}
use Rattle.forms.specs.Form.{Form, Way, number, list, record_of, ways_at, Closed}
use Rattle.taking.specs.Takes.{takes}

-- Every paper that f takes as k, g takes as j.
abbrev pub Within : Form → ℕ → Form → ℕ → Type 0
Within f k g j = (d : Paper) → well d ≡ true → takes d f k ≡ true → takes d g j ≡ true

-- To take no more is an order; forms that take no more than each other take the same papers.
abbrev pub WithinOrder : Type 0
WithinOrder =
    (f g h : Form) (k j i : ℕ) →
    Within f k f k × (Within f k g j → Within g j h i → Within f k h i)
    × (Within f k g j → Within g j f k → (d : Paper) → well d ≡ true → takes d f k ≡ takes d g j)

-- A way added to a kind loses no paper at any kind.
abbrev pub Wider : Type 0
Wider = (f : Form) (i k : ℕ) (w : Way) → i < length f → Within f k (set f i (w ∷ ways_at f i)) k

-- A place added behind the others.
abbrev pub with_place : List Place → Place → List Place
with_place ps p = ps ++ p ∷ []

-- All places have names below x.
unfoldable pub IsBehind : List Place → ℕ → Type 0
IsBehind [] x = 0 ≤ x
IsBehind (p ∷ ps) x = (p.name < x) × IsBehind ps x

-- A kind that is one record gets a place behind the others. If it need not be filled, no paper is lost, at any kind; if it must be, every
-- paper that the kind took is lost.
abbrev pub NewField : Type 0
NewField =
    (f : Form) (i k x j : ℕ) (ps : List Place) → i < length f → ways_at f i ≡ record_of ps ∷ [] → IsBehind ps x →
    Within f k (set f i (record_of (with_place ps (record { name = x; kind = j; must = false })) ∷ [])) k
    × ((d : Paper) → takes d f i ≡ true → takes d (set f i (record_of (with_place ps (record { name = x; kind = j; must = true })) ∷ [])) i ≡ false)

-- A form whose kinds are numbered from n on.
unfoldable pub moved_places : ℕ → List Place → List Place
moved_places n [] = []
moved_places n (p ∷ ps) = record { name = p.name; kind = n + p.kind; must = p.must } ∷ moved_places n ps

unfoldable pub moved_ways : ℕ → List Way → List Way
moved_ways n [] = []
moved_ways n (number a b ∷ ws) = number a b ∷ moved_ways n ws
moved_ways n (list k a b ∷ ws) = list (n + k) a b ∷ moved_ways n ws
moved_ways n (record_of ps ∷ ws) = record_of (moved_places n ps) ∷ moved_ways n ws

unfoldable pub moved : ℕ → Form → Form
moved n [] = []
moved n (ws ∷ wss) = moved_ways n ws ∷ moved n wss

-- Kinds may be numbered anew: behind the kinds of another form each takes what it took.
abbrev pub MovedTakes : Type 0
MovedTakes =
    (f g : Form) (k : ℕ) (d : Paper) → Closed g → k < length g →
    takes d (f ++ moved (length f) g) (length f + k) ≡ takes d g k
