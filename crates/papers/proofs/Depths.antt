-- What is read is no deeper than allowed, and no deeper than its row is long, whatever is made of it. Assumes nothing.
use Rattle.std.proofs.Common.{◌≡◌, ℕ, suc, ◌+◌, ◌^◌, ◌<◌, ◌≤◌, List, ◌∷◌, length, refl, ap, ◌∙◌, subst, arith}
use Rattle.std.proofs.lemmas.List.{length-append}
use Rattle.papers.specs.declared.shape.Shape.TheVariants.{List as ListShape, Record}
use Rattle.papers.specs.Reading.{done, into, read_list, read_record, read_paper}
use Rattle.papers.specs.Paper.{Paper, num, items, fields, Papers, no_items, item, Fields, no_fields, field, deep, all_deep, fields_deep}
use Rattle.papers.specs.Row.{row_of, rows_of, field_rows}
use Rattle.papers.proofs.Outcomes.{into_done}
use Rattle.papers.proofs.Standing.{paper_read}
use Rattle.papers.proofs.Steps.{opens_list, opens_record}
use Rattle.papers.proofs.Loops.{list_read, record_read}

-- no deeper than allowed
pub list_flat : (n : ℕ) (xs : List ℕ) (v : ℕ) (rest : List ℕ) → into all_deep (read_list (read_paper n) xs) ≡ done v rest → v ≤ n
unfolding deep read_paper
list_flat n xs v rest e =
    let p = into_done all_deep (read_list (read_paper n) xs) v rest e in
    omega (arith, p.2, (paper_read (suc n) (1 ∷ xs) (items p.0) rest (ap (into items) p.1)).flat)

pub record_flat : (n : ℕ) (xs : List ℕ) (v : ℕ) (rest : List ℕ) → into fields_deep (read_record (read_paper n) xs) ≡ done v rest → v ≤ n
unfolding deep read_paper
record_flat n xs v rest e =
    let p = into_done fields_deep (read_record (read_paper n) xs) v rest e in
    omega (arith, p.2, (paper_read (suc n) (2 ∷ xs) (fields p.0) rest (ap (into fields) p.1)).flat)

-- no deeper than its row is long
mutual
  unfolding deep row_of

  row_deep : (d : Paper) → deep d ≤ length (row_of d)
  row_deep (num n) = omega arith
  row_deep (items ds) = omega (arith, rows_deep ds)
  row_deep (fields fs) = omega (arith, field_rows_deep fs)

  rows_deep : (ds : Papers) → all_deep ds ≤ length (rows_of ds)
  rows_deep no_items = omega arith
  rows_deep (item d ds) = omega (arith, row_deep d, rows_deep ds, length-append (row_of d) (rows_of ds))

  field_rows_deep : (fs : Fields) → fields_deep fs ≤ length (field_rows fs)
  field_rows_deep no_fields = omega arith
  field_rows_deep (field x d fs) = omega (arith, row_deep d, field_rows_deep fs, length-append (row_of d) (field_rows fs))

-- so there is room for what is made of it
module _ {X : Type 0} (of : Paper → X) (has_room : X → Type 0) (room : (d : Paper) → deep d < 2 ^ 64 → has_room (of d)) where
  paper_room : (n : ℕ) (xs : List ℕ) (v : X) (rest : List ℕ) → length xs < 2 ^ 64 → into of (read_paper n xs) ≡ done v rest → has_room v
  paper_room n xs v rest l e =
      let p = into_done of (read_paper n xs) v rest e in
      let s = paper_read n xs p.0 rest p.1 in
      subst has_room p.2 (room p.0 (omega (arith, row_deep p.0, ap length s.row, length-append (row_of p.0) rest)))

  pub list_room : (n : ℕ) (xs : List ℕ) {v : X} {rest : List ℕ} → length xs + 1 < 2 ^ 64 → list_read of n xs ≡ done v rest → has_room v
  list_room n xs {v} {rest} l e =
      paper_room (suc n) (1 ∷ xs) v rest (omega arith) (opens_list of {n = suc n} {xs = 1 ∷ xs} {s = ListShape} (refl, refl) refl ∙ e)

  pub record_room : (n : ℕ) (xs : List ℕ) {v : X} {rest : List ℕ} → length xs + 1 < 2 ^ 64 → record_read of n xs ≡ done v rest → has_room v
  record_room n xs {v} {rest} l e =
      paper_room (suc n) (2 ∷ xs) v rest (omega arith) (opens_record of {n = suc n} {xs = 2 ∷ xs} {s = Record} (refl, refl) refl ∙ e)
