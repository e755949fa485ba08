-- The kinds that take a list or a record of which a part is read and these papers or fields are left. Assumes nothing: these are definitions.
use Rattle.std.specs.Prelude.{ℕ, ◌+◌, Bool, false, ◌&&◌, List, Option, Some, None, drop}
use Rattle.papers.specs.Paper.{Papers, Fields, count}
use Rattle.forms.specs.declared.way.Place.{Place}
use Rattle.forms.specs.Form.{Form, Way}
use Rattle.taking.specs.declared.group.WayAt.{WayAt}
use Rattle.taking.specs.Advance.{progress_at}
use Rattle.taking.specs.Groups.{kinds_seen}
use Rattle.taking.specs.Masks.{test, list_taken}
use Rattle.taking.specs.Takes.{all_take, fields_take, record_takes}

-- A list: i papers are read, all of which the kinds s take.
unfoldable pub both_take : Form → ℕ → Papers → ℕ → Bool
both_take f s ds k = test s k && all_take ds f k

unfoldable pub list_last : Form → ℕ → ℕ → Papers → ℕ
list_last f i s ds = list_taken f (i + count ds) (both_take f s ds)

-- A record: each listed way has come so far.
unfoldable pub left_take : Form → Fields → Option ℕ → List Place → Bool
left_take f fs (Some i) ps = fields_take fs f (drop i ps)
left_take f fs None ps = false

abbrev pub left_sees : Form → Fields → List (Option ℕ) → Way → ℕ → Bool
left_sees f fs ways w i = record_takes (left_take f fs (progress_at ways i)) w

unfoldable pub record_last : Form → List WayAt → List (Option ℕ) → Fields → ℕ
record_last f ws ways fs = kinds_seen (left_sees f fs ways) f ws
