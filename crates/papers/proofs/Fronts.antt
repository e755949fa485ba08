-- No written paper is the front of another. Assumes nothing.
use Rattle.std.proofs.Common.{◌≡◌, ℕ, List, ◌∷◌, ◌++◌, sym, refl, ap, ◌∙◌, append_assoc, arith}
use Rattle.papers.specs.Paper.{Paper, num, items, fields, Papers, no_items, item, Fields, no_fields, field, count, size}
use Rattle.papers.specs.Row.{row_of, rows_of, field_rows}

-- two rows of numbers with the same first number
tails : (x y : ℕ) (xs ys : List ℕ) → x ∷ xs ≡ y ∷ ys → (x ≡ y) × (xs ≡ ys)
tails x y xs ys e = ((cc), (cc))

mutual
  unfolding row_of count size

  pub same_paper : (d e : Paper) (r s : List ℕ) → row_of d ++ r ≡ row_of e ++ s → (d ≡ e) × (r ≡ s)
  same_paper (num m) (num n) r s h = ((cc), (cc))
  same_paper (num m) (items es) r s h = let z : ◌≡◌ {A = ℕ} 0 1 = cc in absurd (omega arith)
  same_paper (num m) (fields gs) r s h = let z : ◌≡◌ {A = ℕ} 0 2 = cc in absurd (omega arith)
  same_paper (items ds) (num n) r s h = let z : ◌≡◌ {A = ℕ} 1 0 = cc in absurd (omega arith)
  same_paper (items ds) (items es) r s h = let p = same_papers ds es r s (cc) (cc) in (ap items p.0, p.1)
  same_paper (items ds) (fields gs) r s h = let z : ◌≡◌ {A = ℕ} 1 2 = cc in absurd (omega arith)
  same_paper (fields fs) (num n) r s h = let z : ◌≡◌ {A = ℕ} 2 0 = cc in absurd (omega arith)
  same_paper (fields fs) (items es) r s h = let z : ◌≡◌ {A = ℕ} 2 1 = cc in absurd (omega arith)
  same_paper (fields fs) (fields gs) r s h = let p = same_fields fs gs r s (cc) (cc) in (ap fields p.0, p.1)

  same_papers : (ds es : Papers) (r s : List ℕ) → count ds ≡ count es → rows_of ds ++ r ≡ rows_of es ++ s → (ds ≡ es) × (r ≡ s)
  same_papers no_items no_items r s c h = (refl, h)
  same_papers no_items (item e es) r s c h = absurd (omega arith)
  same_papers (item d ds) no_items r s c h = absurd (omega arith)
  same_papers (item d ds) (item e es) r s c h =
      let p = same_paper d e (rows_of ds ++ r) (rows_of es ++ s) (sym (append_assoc (row_of d) (rows_of ds) r) ∙ h ∙ append_assoc (row_of e) (rows_of es) s) in
      let q = same_papers ds es r s (omega arith) p.1 in
      ((λ i. item (p.0 i) (q.0 i)), q.1)

  same_fields : (fs gs : Fields) (r s : List ℕ) → size fs ≡ size gs → field_rows fs ++ r ≡ field_rows gs ++ s → (fs ≡ gs) × (r ≡ s)
  same_fields no_fields no_fields r s c h = (refl, h)
  same_fields no_fields (field y e gs) r s c h = absurd (omega arith)
  same_fields (field x d fs) no_fields r s c h = absurd (omega arith)
  same_fields (field x d fs) (field y e gs) r s c h =
      let t = tails x y ((row_of d ++ field_rows fs) ++ r) ((row_of e ++ field_rows gs) ++ s) h in
      let p = same_paper d e (field_rows fs ++ r) (field_rows gs ++ s) (sym (append_assoc (row_of d) (field_rows fs) r) ∙ t.1 ∙ append_assoc (row_of e) (field_rows gs) s) in
      let q = same_fields fs gs r s (omega arith) p.1 in
      ((λ i. field (t.0 i) (p.0 i) (q.0 i)), q.1)
