-- A written paper that is read again gives itself, and what is read is a written paper. Assumes nothing.
use Rattle.std.proofs.Common.{◌≡◌, ℕ, zero, suc, ◌<◌, ◌≤◌, max, Bool, true, ◌&&◌, ltb, leb, ◌⊎◌, List, ◌∷◌, ◌++◌, refl, ap, ◌∙◌, inl, inr, append_assoc, arith}
use Rattle.std.proofs.lemmas.Bool.{leb-true, ltb-true, le-leb, and_parts}
use Rattle.papers.specs.declared.reading.Why.TheVariants.{Deeper}
use Rattle.papers.specs.Paper.{Paper, num, items, fields, Papers, no_items, item, Fields, no_fields, field, count, size, after_all, well, all_well, fields_well, deep, all_deep, fields_deep}
use Rattle.papers.specs.Row.{row_of, rows_of, field_rows, limit, fits, all_fit, fields_fit}
use Rattle.papers.specs.Reading.{Outcome, done, fault, then, into, read_items, read_fields, read_list, read_record, read_paper}
use Rattle.papers.proofs.Outcomes.{number_reads}

-- a reading at most n deep comes to `a` and the rest, if that is not deeper; else it is too deep
abbrev pub Comes : {A : Type 0} → ℕ → Outcome A → A → List ℕ → ℕ → Type 0
Comes n o a rest depth = ((o ≡ done a rest) × (depth ≤ n)) ⊎ ((left : List ℕ) × (o ≡ fault Deeper left) × (n < depth))

comes_into : {A B : Type 0} (f : A → B) (n : ℕ) (o : Outcome A) (a : A) (rest : List ℕ) (depth : ℕ) → Comes n o a rest depth → Comes (suc n) (into f o) (f a) rest (suc depth)
comes_into f n o a rest depth (inl h) = inl (ap (into f) h.0, omega (arith, h.1))
comes_into f n o a rest depth (inr h) = inr (h.0, ap (into f) h.1, omega (arith, h.2))

-- one paper and then the others, joined by f
comes_then : {A B C : Type 0} (f : A → B → C) (go : List ℕ → Outcome B) (n : ℕ) (o : Outcome A) (a : A) (b : B) (mid rest : List ℕ) (m k : ℕ) →
    Comes n o a mid m → Comes n (go mid) b rest k → Comes n (then o (λ x later. into (f x) (go later))) (f a b) rest (max m k)
comes_then f go n o a b mid rest m k (inl p) (inl q) = inl (ap (λ v. then v (λ x later. into (f x) (go later))) p.0 ∙ ap (into (f a)) q.0, omega (arith, p.1, q.1))
comes_then f go n o a b mid rest m k (inl p) (inr q) = inr (q.0, ap (λ v. then v (λ x later. into (f x) (go later))) p.0 ∙ ap (into (f a)) q.1, omega (arith, q.2))
comes_then f go n o a b mid rest m k (inr p) q = inr (p.0, ap (λ v. then v (λ x later. into (f x) (go later))) p.1, omega (arith, p.2))

-- the first name, if there is one, is at least low
abbrev pub from : ℕ → Fields → Bool
from low no_fields = true
from low (field y d fs) = leb low y

from_after : (x : ℕ) (fs : Fields) → after_all x fs ≡ true → from (suc x) fs ≡ true
unfolding after_all
from_after x no_fields h = refl
from_after x (field y d fs) h = h

pub after_from : (x : ℕ) (fs : Fields) → from (suc x) fs ≡ true → after_all x fs ≡ true
unfolding after_all
after_from x no_fields h = refl
after_from x (field y d fs) h = h

from_zero : (fs : Fields) → from 0 fs ≡ true
from_zero no_fields = refl
from_zero (field y d fs) = le-leb 0 y (omega arith)

list_comes : (n : ℕ) (ds : Papers) (rest : List ℕ) → count ds < limit → Comes n (read_items (read_paper n) (count ds) (rows_of ds ++ rest)) ds rest (all_deep ds) → Comes (suc n) (read_paper (suc n) (row_of (items ds) ++ rest)) (items ds) rest (deep (items ds))
unfolding read_paper read_list row_of deep
list_comes n ds rest l h = rw (number_reads 0 (count ds) (rows_of ds ++ rest) (omega arith) l) (comes_into items n _ ds rest (all_deep ds) h)

record_comes : (n : ℕ) (fs : Fields) (rest : List ℕ) → size fs < limit → Comes n (read_fields (read_paper n) (size fs) 0 (field_rows fs ++ rest)) fs rest (fields_deep fs) → Comes (suc n) (read_paper (suc n) (row_of (fields fs) ++ rest)) (fields fs) rest (deep (fields fs))
unfolding read_paper read_record row_of deep
record_comes n fs rest l h = rw (number_reads 0 (size fs) (field_rows fs ++ rest) (omega arith) l) (comes_into fields n _ fs rest (fields_deep fs) h)

items_more : (n : ℕ) (d : Paper) (ds : Papers) (rest : List ℕ) → Comes n (read_paper n (row_of d ++ (rows_of ds ++ rest))) d (rows_of ds ++ rest) (deep d) → Comes n (read_items (read_paper n) (count ds) (rows_of ds ++ rest)) ds rest (all_deep ds) → Comes n (read_items (read_paper n) (count (item d ds)) (rows_of (item d ds) ++ rest)) (item d ds) rest (all_deep (item d ds))
unfolding read_items count row_of deep
items_more n d ds rest p q = rw append_assoc (comes_then item (read_items (read_paper n) (count ds)) n _ d ds (rows_of ds ++ rest) rest (deep d) (all_deep ds) p q)

fields_more : (n low x : ℕ) (d : Paper) (fs : Fields) (rest : List ℕ) → low ≤ x → x < limit → Comes n (read_paper n (row_of d ++ (field_rows fs ++ rest))) d (field_rows fs ++ rest) (deep d) → Comes n (read_fields (read_paper n) (size fs) (suc x) (field_rows fs ++ rest)) fs rest (fields_deep fs) → Comes n (read_fields (read_paper n) (size (field x d fs)) low (field_rows (field x d fs) ++ rest)) (field x d fs) rest (fields_deep (field x d fs))
unfolding read_fields size row_of deep
fields_more n low x d fs rest h l p q = rw (number_reads low x ((row_of d ++ field_rows fs) ++ rest) h l, append_assoc) (comes_then (field x) (read_fields (read_paper n) (size fs) (suc x)) n _ d fs (field_rows fs ++ rest) rest (deep d) (fields_deep fs) p q)

-- a written paper, and whatever follows it, is read as that paper, or it is too deep
mutual
  unfolding read_paper read_items read_fields row_of deep well fits count size

  pub paper_comes : (d : Paper) (n : ℕ) (rest : List ℕ) → well d ≡ true → fits d ≡ true → Comes n (read_paper n (row_of d ++ rest)) d rest (deep d)
  paper_comes (num v) zero rest w f = inr (0 ∷ v ∷ rest, refl, omega arith)
  paper_comes (num v) (suc n) rest w f = inl (ap (into num) (number_reads 0 v rest (omega arith) (ltb-true v limit f)), omega arith)
  paper_comes (items ds) zero rest w f = inr (1 ∷ count ds ∷ (rows_of ds ++ rest), refl, omega arith)
  paper_comes (items ds) (suc n) rest w f =
      let p = and_parts (ltb (count ds) limit) (all_fit ds) f in
      list_comes n ds rest (ltb-true (count ds) limit p.0) (items_come ds n rest w p.1)
  paper_comes (fields fs) zero rest w f = inr (2 ∷ size fs ∷ (field_rows fs ++ rest), refl, omega arith)
  paper_comes (fields fs) (suc n) rest w f =
      let p = and_parts (ltb (size fs) limit) (fields_fit fs) f in
      record_comes n fs rest (ltb-true (size fs) limit p.0) (fields_come fs n 0 rest (from_zero fs) w p.1)

  items_come : (ds : Papers) (n : ℕ) (rest : List ℕ) → all_well ds ≡ true → all_fit ds ≡ true → Comes n (read_items (read_paper n) (count ds) (rows_of ds ++ rest)) ds rest (all_deep ds)
  items_come no_items n rest w f = inl (refl, omega arith)
  items_come (item d ds) n rest w f =
      let p = and_parts (well d) (all_well ds) w in
      let q = and_parts (fits d) (all_fit ds) f in
      items_more n d ds rest (paper_comes d n (rows_of ds ++ rest) p.0 q.0) (items_come ds n rest p.1 q.1)

  fields_come : (fs : Fields) (n low : ℕ) (rest : List ℕ) → from low fs ≡ true → fields_well fs ≡ true → fields_fit fs ≡ true → Comes n (read_fields (read_paper n) (size fs) low (field_rows fs ++ rest)) fs rest (fields_deep fs)
  fields_come no_fields n low rest h w f = inl (refl, omega arith)
  fields_come (field x d fs) n low rest h w f =
      let p = and_parts (after_all x fs) (well d && fields_well fs) w in
      let p' = and_parts (well d) (fields_well fs) p.1 in
      let q = and_parts (ltb x limit) (fits d && fields_fit fs) f in
      let q' = and_parts (fits d) (fields_fit fs) q.1 in
      fields_more n low x d fs rest (leb-true low x h) (ltb-true x limit q.0)
      (paper_comes d n (field_rows fs ++ rest) p'.0 q'.0)
      (fields_come fs n (suc x) rest (from_after x fs p.0) p'.1 q'.1)
