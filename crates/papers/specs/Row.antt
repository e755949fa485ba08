-- A paper written as a row of numbers: `0 n`, `1 count papers..`, `2 count (name paper)..`. Assumes nothing: these are definitions.
use Rattle.std.specs.Prelude.{ℕ, Bool, true, ◌&&◌, List, [], ◌∷◌, ◌++◌, nat_lt}
use Rattle.papers.specs.Paper.{Paper, num, items, fields, Papers, no_items, item, Fields, no_fields, field, count, size}

unfoldable mutual
  pub row_of : Paper → List ℕ
  row_of (num n) = 0 ∷ n ∷ []
  row_of (items ds) = 1 ∷ count ds ∷ rows_of ds
  row_of (fields fs) = 2 ∷ size fs ∷ field_rows fs

  pub rows_of : Papers → List ℕ
  rows_of no_items = []
  rows_of (item d ds) = row_of d ++ rows_of ds

  pub field_rows : Fields → List ℕ
  field_rows no_fields = []
  field_rows (field x d fs) = x ∷ (row_of d ++ field_rows fs)

-- every number, name and count of a row is below this
abbrev pub limit : ℕ
limit = 4294967296

-- a paper fits if every number, name and count in it is below the limit
unfoldable mutual
  pub fits : Paper → Bool
  fits (num n) = nat_lt n limit
  fits (items ds) = nat_lt (count ds) limit && all_fit ds
  fits (fields fs) = nat_lt (size fs) limit && fields_fit fs

  pub all_fit : Papers → Bool
  all_fit no_items = true
  all_fit (item d ds) = fits d && all_fit ds

  pub fields_fit : Fields → Bool
  fields_fit no_fields = true
  fields_fit (field x d fs) = nat_lt x limit && (fits d && fields_fit fs)
