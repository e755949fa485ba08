-- A reading looks at the numbers up to its end or its fault, and no further. Assumes nothing.
use Rattle.std.proofs.Common.{◌≡◌, ℕ, zero, suc, Bool, true, false, cond, ◌&&◌, ltb, leb, List, [], ◌∷◌, ◌++◌, take, sym, refl, ap, ◌∙◌, subst, append_assoc, arith}
use Rattle.papers.specs.declared.reading.Why.{Why}
use Rattle.papers.specs.declared.reading.Why.TheVariants.{NoPaper, Deeper}
use Rattle.papers.specs.Paper.{Paper, num, items, fields, item, field}
use Rattle.papers.specs.Row.{limit}
use Rattle.papers.specs.Reading.{Outcome, done, fault, then, into, number_from, read_items, read_fields, read_list, read_record, read_paper}

-- the row from where a reading stopped
abbrev pub back : {A : Type 0} → Outcome A → List ℕ
back (done a rest) = rest
back (fault w left) = left

-- the same outcome with another rest
abbrev pub moved : {A : Type 0} → Outcome A → List ℕ → Outcome A
moved (done a rest) ys = done a ys
moved (fault w left) ys = fault w ys

-- what may stand in place of the rest: anything, and after a fault what begins as it does
abbrev pub Alike : {A : Type 0} → Outcome A → List ℕ → Type 0
Alike (done a rest) ys = Unit {0}
Alike (fault w left) ys = take 1 ys ≡ take 1 left

-- from xs a reader comes to o, and it does so from every row with the same front
pub record Cause {A : Type 0} (rd : List ℕ → Outcome A) (xs : List ℕ) (o : Outcome A) : Type 0 where
  pub front : List ℕ
  pub split : xs ≡ front ++ back o
  pub same : (ys : List ℕ) → Alike o ys → rd (front ++ ys) ≡ moved o ys

abbrev pub Causal : {A : Type 0} → (List ℕ → Outcome A) → Type 0
Causal rd = (xs : List ℕ) (o : Outcome _) → rd xs ≡ o → Cause rd xs o

-- a reader's outcome put into something larger
into_alike : {A B : Type 0} (f : A → B) (o : Outcome A) (ys : List ℕ) → Alike (into f o) ys → Alike o ys
into_alike f (done a rest) ys h = h
into_alike f (fault w left) ys h = h

into_moved : {A B : Type 0} (f : A → B) (o : Outcome A) (ys : List ℕ) → into f (moved o ys) ≡ moved (into f o) ys
into_moved f (done a rest) ys = refl
into_moved f (fault w left) ys = refl

into_back : {A B : Type 0} (f : A → B) (o : Outcome A) → back (into f o) ≡ back o
into_back f (done a rest) = refl
into_back f (fault w left) = refl

into_causal : {A B : Type 0} (f : A → B) (rd : List ℕ → Outcome A) → Causal rd → Causal (λ xs. into f (rd xs))
into_causal f rd h xs o e =
    let c = h xs (rd xs) refl in
    subst (Cause (λ zs. into f (rd zs)) xs) e
    (record {
      front = c.front;
      split = c.split ∙ ap (λ l. c.front ++ l) (sym (into_back f (rd xs)));
      same = λ ys k. ap (into f) (c.same ys (into_alike f (rd xs) ys k)) ∙ into_moved f (rd xs) ys;
    })

-- one reader after another
then_causal : {A B : Type 0} (rd : List ℕ → Outcome A) (go : A → List ℕ → Outcome B) → Causal rd → ((a : A) → Causal (go a)) → Causal (λ xs. then (rd xs) go)
then_causal rd go h k xs o e = subst (Cause (λ zs. then (rd zs) go) xs) e (at (rd xs) (h xs (rd xs) refl))
  where
    at : (p : Outcome _) → Cause rd xs p → Cause (λ zs. then (rd zs) go) xs (then p go)
    at (fault w left) c = record { front = c.front; split = c.split; same = λ ys j. ap (λ p. then p go) (c.same ys j) }
    at (done a mid) c =
        let d = k a mid (go a mid) refl in
        record {
          front = c.front ++ d.front;
          split = c.split ∙ ap (λ l. c.front ++ l) d.split ∙ sym (append_assoc c.front d.front (back (go a mid)));
          same = λ ys j. ap (λ l. then (rd l) go) (append_assoc c.front d.front ys) ∙ ap (λ p. then p go) (c.same (d.front ++ ys) tt) ∙ d.same ys j;
        }

-- a reader after a number at the front
after_causal : {A : Type 0} (x : ℕ) (rd go : List ℕ → Outcome A) → ((ys : List ℕ) → rd (x ∷ ys) ≡ go ys) → (xs : List ℕ) (o : Outcome A) → go xs ≡ o → Causal go → Cause rd (x ∷ xs) o
after_causal x rd go step xs o e h =
    let c = h xs o e in
    record {
      front = x ∷ c.front;
      split = ap (λ l. x ∷ l) c.split;
      same = λ ys j. step (c.front ++ ys) ∙ c.same ys j;
    }

-- a fault at the very front
front_fault : {A : Type 0} (rd : List ℕ → Outcome A) (w : Why) (xs : List ℕ) (o : Outcome A) → fault w xs ≡ o → ((ys : List ℕ) → take 1 ys ≡ take 1 xs → rd ys ≡ fault w ys) → Cause rd xs o
front_fault rd w xs o e h = subst (Cause rd xs) e (record { front = []; split = refl; same = h })

-- rows that begin alike
begins_nil : (P : List ℕ → Type 0) (ys : List ℕ) → take 1 ys ≡ [] → P [] → P ys
begins_nil P [] e h = h
begins_nil P (y ∷ ys) e h = let z : ◌≡◌ {A = ℕ} 0 1 = cc in absurd (omega arith)

begins_cons : (P : List ℕ → Type 0) (x : ℕ) (ys : List ℕ) → take 1 ys ≡ x ∷ [] → ((zs : List ℕ) → P (x ∷ zs)) → P ys
begins_cons P x [] e h = let z : ◌≡◌ {A = ℕ} 0 1 = cc in absurd (omega arith)
begins_cons P x (y ∷ ys) e h = let same : x ≡ y = cc in subst (λ n. P (n ∷ ys)) same (h ys)

number_causal : (low : ℕ) → Causal (number_from low)
unfolding number_from
number_causal low [] o e = front_fault (number_from low) NoPaper [] o e (λ ys h. begins_nil (λ l. number_from low l ≡ fault NoPaper l) ys h refl)
number_causal low (x ∷ xs) o e = at (leb low x && ltb x limit) refl
  where
    at : (b : Bool) → (leb low x && ltb x limit) ≡ b → Cause (number_from low) (x ∷ xs) o
    at true h =
        let step : (ys : List ℕ) → number_from low (x ∷ ys) ≡ done x ys = λ ys. ap (λ b. cond b (done x ys) (fault NoPaper (x ∷ ys))) h in
        subst (Cause (number_from low) (x ∷ xs)) (sym (step xs) ∙ e) (record { front = x ∷ []; split = refl; same = λ ys j. step ys })
    at false h =
        let step : (ys : List ℕ) → number_from low (x ∷ ys) ≡ fault NoPaper (x ∷ ys) = λ ys. ap (λ b. cond b (done x ys) (fault NoPaper (x ∷ ys))) h in
        front_fault (number_from low) NoPaper (x ∷ xs) o (sym (step xs) ∙ e) (λ ys j. begins_cons (λ l. number_from low l ≡ fault NoPaper l) x ys j step)

module _ (rd : List ℕ → Outcome Paper) (h : Causal rd) where
  items_causal : (n : ℕ) → Causal (read_items rd n)
  unfolding read_items
  items_causal zero xs o e = subst (Cause (read_items rd 0) xs) e (record { front = []; split = refl; same = λ ys j. refl })
  items_causal (suc n) xs o e = then_causal rd (λ d rest. into (item d) (read_items rd n rest)) h (λ d. into_causal (item d) (read_items rd n) (items_causal n)) xs o e

  fields_causal : (n low : ℕ) → Causal (read_fields rd n low)
  unfolding read_fields
  fields_causal zero low xs o e = subst (Cause (read_fields rd 0 low) xs) e (record { front = []; split = refl; same = λ ys j. refl })
  fields_causal (suc n) low xs o e =
      then_causal (number_from low) (λ x after. then (rd after) (λ d rest. into (field x d) (read_fields rd n (suc x) rest))) (number_causal low)
      (λ x. then_causal rd (λ d rest. into (field x d) (read_fields rd n (suc x) rest)) h (λ d. into_causal (field x d) (read_fields rd n (suc x)) (fields_causal n (suc x)))) xs o e

  list_causal : Causal (read_list rd)
  unfolding read_list
  list_causal = then_causal (number_from 0) (read_items rd) (number_causal 0) items_causal

  record_causal : Causal (read_record rd)
  unfolding read_record
  record_causal = then_causal (number_from 0) (λ n rest. read_fields rd n 0 rest) (number_causal 0) (λ n. fields_causal n 0)

pub paper_causal : (n : ℕ) → Causal (read_paper n)
unfolding read_paper
paper_causal zero [] o e = front_fault (read_paper 0) NoPaper [] o e (λ ys h. begins_nil (λ l. read_paper 0 l ≡ fault NoPaper l) ys h refl)
paper_causal zero (zero ∷ xs) o e = front_fault (read_paper 0) Deeper (0 ∷ xs) o e (λ ys h. begins_cons (λ l. read_paper 0 l ≡ fault Deeper l) 0 ys h (λ zs. refl))
paper_causal zero (suc zero ∷ xs) o e = front_fault (read_paper 0) Deeper (1 ∷ xs) o e (λ ys h. begins_cons (λ l. read_paper 0 l ≡ fault Deeper l) 1 ys h (λ zs. refl))
paper_causal zero (suc (suc zero) ∷ xs) o e = front_fault (read_paper 0) Deeper (2 ∷ xs) o e (λ ys h. begins_cons (λ l. read_paper 0 l ≡ fault Deeper l) 2 ys h (λ zs. refl))
paper_causal zero (suc (suc (suc s)) ∷ xs) o e = front_fault (read_paper 0) NoPaper (suc (suc (suc s)) ∷ xs) o e (λ ys h. begins_cons (λ l. read_paper 0 l ≡ fault NoPaper l) (suc (suc (suc s))) ys h (λ zs. refl))
paper_causal (suc n) [] o e = front_fault (read_paper (suc n)) NoPaper [] o e (λ ys h. begins_nil (λ l. read_paper (suc n) l ≡ fault NoPaper l) ys h refl)
paper_causal (suc n) (zero ∷ xs) o e = after_causal 0 (read_paper (suc n)) (λ ys. into num (number_from 0 ys)) (λ ys. refl) xs o e (into_causal num (number_from 0) (number_causal 0))
paper_causal (suc n) (suc zero ∷ xs) o e = after_causal 1 (read_paper (suc n)) (λ ys. into items (read_list (read_paper n) ys)) (λ ys. refl) xs o e (into_causal items (read_list (read_paper n)) (list_causal (read_paper n) (paper_causal n)))
paper_causal (suc n) (suc (suc zero) ∷ xs) o e = after_causal 2 (read_paper (suc n)) (λ ys. into fields (read_record (read_paper n) ys)) (λ ys. refl) xs o e (into_causal fields (read_record (read_paper n)) (record_causal (read_paper n) (paper_causal n)))
paper_causal (suc n) (suc (suc (suc s)) ∷ xs) o e = front_fault (read_paper (suc n)) NoPaper (suc (suc (suc s)) ∷ xs) o e (λ ys h. begins_cons (λ l. read_paper (suc n) l ≡ fault NoPaper l) (suc (suc (suc s))) ys h (λ zs. refl))
