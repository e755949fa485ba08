-- Stretches of numbers that a form does not tell apart. Assumes nothing: these are definitions.
use Rattle.std.specs.Prelude.{◌≡◌, ℕ, ◌^◌, ◌<◌, ◌≤◌, length}
use Rattle.forms.specs.declared.way.Way.{Way as Shape}
use Rattle.forms.specs.declared.way.Way.TheVariants.{Number, List as ListOf, Record}
use Rattle.forms.specs.Form.{Form, Way, shape, ways_at, way_at}
use Rattle.taking.specs.Takes.{number_takes}

-- A range that ends below 2 ^ 32, or no range.
abbrev pub Small : Shape → Type 0
Small (Number from to) = to < 2 ^ 32
Small (ListOf kind least most) = Unit {0}
Small (Record places) = Unit {0}

-- A way takes all numbers from n on and below end, if it takes n, and else none of them.
abbrev pub SameOn : ℕ → ℕ → Way → Type 0
SameOn n end w = (x : ℕ) → n ≤ x → x < end → number_takes x w ≡ number_takes n w

-- The same of each way that has this shape; of the first ways of a kind; of all ways of the first kinds.
abbrev pub ShapeSame : ℕ → ℕ → Shape → Type 0
ShapeSame n end s = (w : Way) → s ≡ shape w → SameOn n end w

abbrev pub WaysSame : ℕ → ℕ → Form → ℕ → ℕ → Type 0
WaysSame n end f k ways = (w : ℕ) → w < ways → SameOn n end (way_at f k w)

abbrev pub KindsSame : ℕ → ℕ → Form → ℕ → Type 0
KindsSame n end f kinds = (k : ℕ) → k < kinds → WaysSame n end f k (length (ways_at f k))
