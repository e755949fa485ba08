-- The kinds of a paper from the kinds of its parts. Assumes nothing: these are definitions.
use Rattle.std.specs.Prelude.{◌≡◌, ℕ, Bool, true, ◌&&◌, List, [], ◌∷◌, length}
use Rattle.papers.specs.Paper.{Paper, num, items, fields, Papers, no_items, item, Fields, no_fields, field}
use Rattle.forms.specs.declared.way.Place.{Place}
use Rattle.forms.specs.Form.{Form, Way, ways_at}
use Rattle.taking.specs.Masks.{mask, test, kinds_of}
use Rattle.taking.specs.Takes.{any, number_takes, list_takes, record_takes, none_must, find, if_found}

-- The fields of a record: the name of each, with the set of the kinds that take the paper there.
pub data Named : Type 0 where
  unnamed : Named
  named : ℕ → ℕ → Named → Named

-- A look at a paper, one level deep: the number that it is; of a list, the set of kinds of each paper in it; of a record, its fields.
pub data Look : Type 0 where
  a_number : ℕ → Look
  a_list : List ℕ → Look
  a_record : Named → Look

-- A kind is in all of these sets.
unfoldable pub in_all : List ℕ → ℕ → Bool
in_all [] k = true
in_all (t ∷ ts) k = test t k && in_all ts k

-- Places take these fields: each has a place of its name, whose kind is in its set, and every place that must be filled is.
unfoldable pub named_take : Named → List Place → Bool
named_take unnamed ps = none_must ps
named_take (named x t fs) ps = if_found (find x ps) (λ k qs. test t k && named_take fs qs)

-- A way takes whatever looks so.
abbrev pub look_takes : Look → Way → Bool
look_takes (a_number n) w = number_takes n w
look_takes (a_list ts) w = list_takes (length ts) (in_all ts) w
look_takes (a_record fs) w = record_takes (named_take fs) w

-- The kinds of a form that take whatever looks so.
unfoldable pub kinds_by : Form → Look → ℕ
kinds_by g l = mask (λ s. any (look_takes l) (ways_at g s)) (length g)

-- How a paper looks, where each part is replaced by the kinds of g that take it.
unfoldable pub sets_of : Form → Papers → List ℕ
sets_of g no_items = []
sets_of g (item d ds) = kinds_of g d ∷ sets_of g ds

unfoldable pub named_of : Form → Fields → Named
named_of g no_fields = unnamed
named_of g (field x d fs) = named x (kinds_of g d) (named_of g fs)

unfoldable pub look_of : Form → Paper → Look
look_of g (num n) = a_number n
look_of g (items ds) = a_list (sets_of g ds)
look_of g (fields fs) = a_record (named_of g fs)

-- One set is inside another.
abbrev pub Inside : ℕ → ℕ → Type 0
Inside s t = (k : ℕ) → test s k ≡ true → test t k ≡ true
