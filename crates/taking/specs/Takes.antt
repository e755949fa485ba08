-- Which papers a form takes. Assumes nothing: these are definitions.
use Rattle.std.specs.Prelude.{ℕ, Bool, true, false, cond, not, ◌&&◌, ◌||◌, List, [], ◌∷◌, ◌==◌, nat_le}
use Rattle.papers.specs.Paper.{Paper, num, items, fields, Papers, no_items, item, Fields, no_fields, field, count}
use Rattle.forms.specs.declared.way.Place.{Place}
use Rattle.forms.specs.Form.{Form, Way, number, list, record_of, ways_at}

-- One of the ways passes a test.
unfoldable pub any : (Way → Bool) → List Way → Bool
any p [] = false
any p (w ∷ ws) = p w || any p ws

-- A way takes the number n.
abbrev pub number_takes : ℕ → Way → Bool
number_takes n (number a b) = nat_le a n && nat_le n b
number_takes n (list k a b) = false
number_takes n (record_of ps) = false

-- A way takes a list of n papers, where p says of a kind whether it takes them all.
abbrev pub list_takes : ℕ → (ℕ → Bool) → Way → Bool
list_takes n p (number a b) = false
list_takes n p (list k a b) = (nat_le a n && nat_le n b) && p k
list_takes n p (record_of ps) = false

-- A way takes a record, where p says of places whether they take its fields.
abbrev pub record_takes : (List Place → Bool) → Way → Bool
record_takes p (number a b) = false
record_takes p (list k a b) = false
record_takes p (record_of ps) = p ps

-- None of the places must be filled.
unfoldable pub none_must : List Place → Bool
none_must [] = true
none_must (p ∷ ps) = not p.must && none_must ps

-- Where a field belongs: the kind there, and the places behind it.
pub data Found : Type 0 where
  at : ℕ → List Place → Found
  nowhere : Found

-- The place of a name; those before it may only be ones that need not be filled.
unfoldable pub find : ℕ → List Place → Found
find x [] = nowhere
find x (p ∷ ps) = cond (p.name == x) (at p.kind ps) (cond p.must nowhere (find x ps))

abbrev pub if_found : Found → (ℕ → List Place → Bool) → Bool
if_found (at k ps) go = go k ps
if_found nowhere go = false

-- A form takes a paper as a kind if one of the kind's ways takes it: a number in its range; a list of a length in its bounds,
-- whose papers are all taken as its kind; a record whose every field has a place of its name and is taken as that place's kind,
-- and in which every place that must be filled is.
unfoldable mutual
  pub takes : Paper → Form → ℕ → Bool
  takes (num n) f k = any (number_takes n) (ways_at f k)
  takes (items ds) f k = any (list_takes (count ds) (all_take ds f)) (ways_at f k)
  takes (fields fs) f k = any (record_takes (fields_take fs f)) (ways_at f k)

  pub all_take : Papers → Form → ℕ → Bool
  all_take no_items f k = true
  all_take (item d ds) f k = takes d f k && all_take ds f k

  pub fields_take : Fields → Form → List Place → Bool
  fields_take no_fields f ps = none_must ps
  fields_take (field x d fs) f ps = if_found (find x ps) (λ k qs. takes d f k && fields_take fs f qs)
