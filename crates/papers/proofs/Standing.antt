-- What is read is a written paper: well made, fitting, and not too deep. Assumes nothing.
use Rattle.std.proofs.Common.{◌≡◌, ℕ, zero, suc, ◌<◌, ◌≤◌, true, ◌&&◌, ltb, List, [], ◌∷◌, ◌++◌, sym, refl, ap, ◌∙◌, subst, append_assoc, arith}
use Rattle.std.proofs.lemmas.Bool.{le-leb, lt-ltb, and_from}
use Rattle.papers.specs.Paper.{Paper, num, items, fields, Papers, no_items, item, Fields, no_fields, field, count, size, after_all, well, all_well, fields_well, deep, all_deep, fields_deep}
use Rattle.papers.specs.Row.{row_of, rows_of, field_rows, limit, fits, all_fit, fields_fit}
use Rattle.papers.specs.Reading.{Outcome, done, then, into, number_from, read_items, read_fields, read_list, read_record, read_paper}
use Rattle.papers.specs.Telling.{Stands}
use Rattle.papers.proofs.Outcomes.{then_done, into_done, number_read}
use Rattle.papers.proofs.Encoding.{from, after_from}

record AllStand (n c : ℕ) (xs : List ℕ) (ds : Papers) (rest : List ℕ) : Type 0 where
  row : xs ≡ rows_of ds ++ rest
  many : count ds ≡ c
  good : all_well ds ≡ true
  small : all_fit ds ≡ true
  flat : all_deep ds ≤ n

record FieldsStand (n c low : ℕ) (xs : List ℕ) (fs : Fields) (rest : List ℕ) : Type 0 where
  row : xs ≡ field_rows fs ++ rest
  many : size fs ≡ c
  first : from low fs ≡ true
  good : fields_well fs ≡ true
  small : fields_fit fs ≡ true
  flat : fields_deep fs ≤ n

-- a reader reads only papers that stand there
abbrev Reads : ℕ → (List ℕ → Outcome Paper) → Type 0
Reads n rd = (xs : List ℕ) (d : Paper) (rest : List ℕ) → rd xs ≡ done d rest → Stands n xs d rest

one_stands : (n c : ℕ) (xs mid rest : List ℕ) (d : Paper) (ds es : Papers) → item d ds ≡ es → Stands n xs d mid → AllStand n c mid ds rest → AllStand n (suc c) xs es rest
unfolding count row_of well fits deep
one_stands n c xs mid rest d ds es same p q = subst (λ all. AllStand n (suc c) xs all rest) same (record {
  row = p.row ∙ ap (λ l. row_of d ++ l) q.row ∙ sym (append_assoc (row_of d) (rows_of ds) rest);
  many = ap suc q.many;
  good = and_from (well d) (all_well ds) p.good q.good;
  small = and_from (fits d) (all_fit ds) p.small q.small;
  flat = omega (arith, p.flat, q.flat);
})

items_read : (n : ℕ) (rd : List ℕ → Outcome Paper) → Reads n rd → (c : ℕ) (xs : List ℕ) (ds : Papers) (rest : List ℕ) → read_items rd c xs ≡ done ds rest → AllStand n c xs ds rest
unfolding read_items count row_of well fits deep
items_read n rd h zero xs ds rest e =
    let same : no_items ≡ ds = cc in
    let left : xs ≡ rest = cc in
    subst (λ es. AllStand n 0 xs es rest) same (record { row = left; many = refl; good = refl; small = refl; flat = omega arith })
items_read n rd h (suc c) xs ds rest e =
    let p = then_done (rd xs) (λ d later. into (item d) (read_items rd c later)) ds rest e in
    let q = into_done (item p.0) (read_items rd c p.1) ds rest p.3 in
    one_stands n c xs p.1 rest p.0 q.0 ds q.2 (h xs p.0 p.1 p.2) (items_read n rd h c p.1 q.0 rest q.1)

field_stands : (n c low x : ℕ) (xs after mid rest : List ℕ) (d : Paper) (fs gs : Fields) → field x d fs ≡ gs → (xs ≡ x ∷ after) × (low ≤ x) × (x < limit) → Stands n after d mid → FieldsStand n c (suc x) mid fs rest → FieldsStand n (suc c) low xs gs rest
unfolding size row_of well fits deep
field_stands n c low x xs after mid rest d fs gs same k p q = subst (λ all. FieldsStand n (suc c) low xs all rest) same (record {
  row = k.0 ∙ ap (λ l. x ∷ l) (p.row ∙ ap (λ l. row_of d ++ l) q.row ∙ sym (append_assoc (row_of d) (field_rows fs) rest));
  many = ap suc q.many;
  first = le-leb low x k.1;
  good = and_from (after_all x fs) (well d && fields_well fs) (after_from x fs q.first) (and_from (well d) (fields_well fs) p.good q.good);
  small = and_from (ltb x limit) (fits d && fields_fit fs) (lt-ltb x limit k.2) (and_from (fits d) (fields_fit fs) p.small q.small);
  flat = omega (arith, p.flat, q.flat);
})

fields_read : (n : ℕ) (rd : List ℕ → Outcome Paper) → Reads n rd → (c low : ℕ) (xs : List ℕ) (fs : Fields) (rest : List ℕ) → read_fields rd c low xs ≡ done fs rest → FieldsStand n c low xs fs rest
unfolding read_fields size row_of well fits deep
fields_read n rd h zero low xs fs rest e =
    let same : no_fields ≡ fs = cc in
    let left : xs ≡ rest = cc in
    subst (λ es. FieldsStand n 0 low xs es rest) same (record { row = left; many = refl; first = refl; good = refl; small = refl; flat = omega arith })
fields_read n rd h (suc c) low xs fs rest e =
    let k = then_done (number_from low xs) (λ x after. then (rd after) (λ d later. into (field x d) (read_fields rd c (suc x) later))) fs rest e in
    let p = then_done (rd k.1) (λ d later. into (field k.0 d) (read_fields rd c (suc k.0) later)) fs rest k.3 in
    let q = into_done (field k.0 p.0) (read_fields rd c (suc k.0) p.1) fs rest p.3 in
    field_stands n c low k.0 xs k.1 p.1 rest p.0 q.0 fs q.2 (number_read low xs k.0 k.1 k.2) (h k.1 p.0 p.1 p.2) (fields_read n rd h c (suc k.0) p.1 q.0 rest q.1)

number_stands : (n : ℕ) (xs : List ℕ) (d : Paper) (rest : List ℕ) → into num (number_from 0 xs) ≡ done d rest → Stands (suc n) (0 ∷ xs) d rest
unfolding row_of well fits deep
number_stands n xs d rest e =
    let p = into_done num (number_from 0 xs) d rest e in
    let k = number_read 0 xs p.0 rest p.1 in
    subst (λ b. Stands (suc n) (0 ∷ xs) b rest) p.2
    (record { row = ap (λ l. 0 ∷ l) k.0; good = refl; small = lt-ltb p.0 limit k.2; flat = omega arith })

list_stands : (n : ℕ) → Reads n (read_paper n) → (xs : List ℕ) (d : Paper) (rest : List ℕ) → into items (read_list (read_paper n) xs) ≡ done d rest → Stands (suc n) (1 ∷ xs) d rest
unfolding read_list row_of well fits deep
list_stands n h xs d rest e =
    let p = into_done items (read_list (read_paper n) xs) d rest e in
    let k = then_done (number_from 0 xs) (read_items (read_paper n)) p.0 rest p.1 in
    let c = number_read 0 xs k.0 k.1 k.2 in
    let q = items_read n (read_paper n) h k.0 k.1 p.0 rest k.3 in
    subst (λ b. Stands (suc n) (1 ∷ xs) b rest) p.2
    (record {
      row = ap (λ l. 1 ∷ l) (c.0 ∙ ap (λ m. m ∷ k.1) (sym q.many) ∙ ap (λ l. count p.0 ∷ l) q.row);
      good = q.good;
      small = and_from (ltb (count p.0) limit) (all_fit p.0) (lt-ltb (count p.0) limit (omega (arith, c.2, q.many))) q.small;
      flat = omega (arith, q.flat);
    })

record_stands : (n : ℕ) → Reads n (read_paper n) → (xs : List ℕ) (d : Paper) (rest : List ℕ) → into fields (read_record (read_paper n) xs) ≡ done d rest → Stands (suc n) (2 ∷ xs) d rest
unfolding read_record row_of well fits deep
record_stands n h xs d rest e =
    let p = into_done fields (read_record (read_paper n) xs) d rest e in
    let k = then_done (number_from 0 xs) (λ c later. read_fields (read_paper n) c 0 later) p.0 rest p.1 in
    let c = number_read 0 xs k.0 k.1 k.2 in
    let q = fields_read n (read_paper n) h k.0 0 k.1 p.0 rest k.3 in
    subst (λ b. Stands (suc n) (2 ∷ xs) b rest) p.2
    (record {
      row = ap (λ l. 2 ∷ l) (c.0 ∙ ap (λ m. m ∷ k.1) (sym q.many) ∙ ap (λ l. size p.0 ∷ l) q.row);
      good = q.good;
      small = and_from (ltb (size p.0) limit) (fields_fit p.0) (lt-ltb (size p.0) limit (omega (arith, c.2, q.many))) q.small;
      flat = omega (arith, q.flat);
    })

-- a reading gives a paper that stands there
pub paper_read : (n : ℕ) → Reads n (read_paper n)
unfolding read_paper
paper_read zero [] d rest e = let z : ◌≡◌ {A = ℕ} 0 1 = cc in absurd (omega arith)
paper_read zero (zero ∷ xs) d rest e = let z : ◌≡◌ {A = ℕ} 0 1 = cc in absurd (omega arith)
paper_read zero (suc zero ∷ xs) d rest e = let z : ◌≡◌ {A = ℕ} 0 1 = cc in absurd (omega arith)
paper_read zero (suc (suc zero) ∷ xs) d rest e = let z : ◌≡◌ {A = ℕ} 0 1 = cc in absurd (omega arith)
paper_read zero (suc (suc (suc s)) ∷ xs) d rest e = let z : ◌≡◌ {A = ℕ} 0 1 = cc in absurd (omega arith)
paper_read (suc n) [] d rest e = let z : ◌≡◌ {A = ℕ} 0 1 = cc in absurd (omega arith)
paper_read (suc n) (zero ∷ xs) d rest e = number_stands n xs d rest e
paper_read (suc n) (suc zero ∷ xs) d rest e = list_stands n (paper_read n) xs d rest e
paper_read (suc n) (suc (suc zero) ∷ xs) d rest e = record_stands n (paper_read n) xs d rest e
paper_read (suc n) (suc (suc (suc s)) ∷ xs) d rest e = let z : ◌≡◌ {A = ℕ} 0 1 = cc in absurd (omega arith)
