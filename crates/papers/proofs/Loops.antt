-- The loops that read a list's papers and a record's fields, whatever is made of them. Assumes nothing.
--
-- A loop has read some papers and has others left. `whole` is what the list comes to; `last` makes that of the papers that are left, and so
-- has in it what the loop made of those before.
use Rattle.std.proofs.Common.{◌≡◌, ℕ, suc, ◌≤◌, List, length, sym, refl, ap, ◌∙◌, arith}
use Rattle.papers.specs.declared.reading.Why.{Why}
use Rattle.papers.specs.Reading.{Outcome, done, fault, then, into, number_from, read_items, read_fields, read_list, read_record, read_paper}
use Rattle.papers.specs.Paper.{Paper, items, fields, Papers, no_items, item, Fields, no_fields, field}
use Rattle.papers.proofs.Outcomes.{into_done, into_fault}
use Rattle.papers.proofs.Steps.{number_shortens, paper_shortens}

-- equal functions put in equal things
into_same : {A B : Type 0} (f g : A → B) → ((a : A) → f a ≡ g a) → (o : Outcome A) → into f o ≡ into g o
into_same f g h (done a rest) = ap (λ b. done b rest) (h a)
into_same f g h (fault w left) = refl

-- one function after another, as one
into_one : {A B C : Type 0} (f : A → B) (g : B → C) (k : A → C) → ((a : A) → g (f a) ≡ k a) → (o : Outcome A) → into g (into f o) ≡ into k o
into_one f g k h (done a rest) = ap (λ b. done b rest) (h a)
into_one f g k h (fault w left) = refl

module _ {X : Type 0} (of : Paper → X) (n : ℕ) (row : List ℕ) where
  -- what a list and a record come to that are read from row on
  abbrev pub list_read : Outcome X
  list_read = into (λ ds. of (items ds)) (read_list (read_paper n) row)

  abbrev pub record_read : Outcome X
  record_read = into (λ fs. of (fields fs)) (read_record (read_paper n) row)

-- a list of which m papers are still to be read, from rest on
pub record ListLeft {X : Type 0} (n : ℕ) (whole : Outcome X) (last : Papers → X) (m : ℕ) (row rest : List ℕ) : Type 0 where
  pub same : whole ≡ into last (read_items (read_paper n) m rest)
  pub shorter : length rest ≤ length row

-- a record of which m fields are still to be read, from rest on, with names from low on
pub record RecordLeft {X : Type 0} (n : ℕ) (whole : Outcome X) (last : Fields → X) (m low : ℕ) (row rest : List ℕ) : Type 0 where
  pub same : whole ≡ into last (read_fields (read_paper n) m low rest)
  pub shorter : length rest ≤ length row

-- how many there are cannot be read
module _ {X : Type 0} (n : ℕ) (row : List ℕ) where
  pub list_none : (all : Papers → X) (w : Why) (left : List ℕ) → number_from 0 row ≡ fault w left → into all (read_list (read_paper n) row) ≡ fault w left
  unfolding read_list
  list_none all w left e = ap (λ o. into all (then o (read_items (read_paper n)))) e

  pub record_none : (all : Fields → X) (w : Why) (left : List ℕ) → number_from 0 row ≡ fault w left → into all (read_record (read_paper n) row) ≡ fault w left
  unfolding read_record
  record_none all w left e = ap (λ o. into all (then o (λ i after. read_fields (read_paper n) i 0 after))) e

-- the fields of a record from the one with the name x on
field_then : (n m x : ℕ) → List ℕ → Outcome Fields
field_then n m x after = then (read_paper n after) (λ d later. into (field x d) (read_fields (read_paper n) m (suc x) later))

module _ {X : Type 0} {n : ℕ} {row : List ℕ} where
  pub list_begins : {all last : Papers → X} {m c : ℕ} {rest : List ℕ} → m ≡ c → number_from 0 row ≡ done c rest →
      ((ds : Papers) → all ds ≡ last ds) → ListLeft n (into all (read_list (read_paper n) row)) last m row rest
  unfolding read_list
  list_begins {all} {last} {m} {c} {rest} z e h = record {
    same = ap (λ o. into all (then o (read_items (read_paper n)))) e
        ∙ ap (λ i. into all (read_items (read_paper n) i rest)) (sym z)
        ∙ into_same all last h (read_items (read_paper n) m rest);
    shorter = omega (arith, number_shortens _ _ e);
  }

  pub record_begins : {all last : Fields → X} {m c : ℕ} {rest : List ℕ} → m ≡ c → number_from 0 row ≡ done c rest →
      ((fs : Fields) → all fs ≡ last fs) → RecordLeft n (into all (read_record (read_paper n) row)) last m 0 row rest
  unfolding read_record
  record_begins {all} {last} {m} {c} {rest} z e h = record {
    same = ap (λ o. into all (then o (λ i after. read_fields (read_paper n) i 0 after))) e
        ∙ ap (λ i. into all (read_fields (read_paper n) i 0 rest)) (sym z)
        ∙ into_same all last h (read_fields (read_paper n) m 0 rest);
    shorter = omega (arith, number_shortens _ _ e);
  }

module _ {X : Type 0} {n : ℕ} {whole : Outcome X} {row : List ℕ} where
  -- a paper of which v is made is read, and `next` makes of the others what `last` makes of it and them
  pub list_goes_on : {V : Type 0} {val : Paper → V} {last next : Papers → X} {k m : ℕ} {v : V} {rest later : List ℕ} → k ≡ suc m →
      ((d : Paper) (ds : Papers) → val d ≡ v → last (item d ds) ≡ next ds) →
      ListLeft n whole last k row rest → into val (read_paper n rest) ≡ done v later → ListLeft n whole next m row later
  unfolding read_items
  list_goes_on {V} {val} {last} {next} {k} {m} {v} {rest} {later} j h l e =
      let p = into_done val (read_paper n rest) v later e in
      record {
        same = l.same ∙ ap (λ i. into last (read_items (read_paper n) i rest)) j
            ∙ ap (λ o. into last (then o (λ d after. into (item d) (read_items (read_paper n) m after)))) p.1
            ∙ into_one (item p.0) last next (λ ds. h p.0 ds p.2) (read_items (read_paper n) m later);
        shorter = omega (arith, l.shorter, paper_shortens val n rest v later e);
      }

  pub list_fails : {V : Type 0} (val : Paper → V) {last : Papers → X} {k : ℕ} (m : ℕ) {rest : List ℕ} → k ≡ suc m → ListLeft n whole last k row rest →
      (w : Why) (left : List ℕ) → into val (read_paper n rest) ≡ fault w left → whole ≡ fault w left
  unfolding read_items
  list_fails val {last} {k} m {rest} j l w left e =
      l.same ∙ ap (λ i. into last (read_items (read_paper n) i rest)) j
      ∙ ap (λ o. into last (then o (λ d after. into (item d) (read_items (read_paper n) m after)))) (into_fault val (read_paper n rest) w left e)

  pub list_ends : {last : Papers → X} {m : ℕ} {v : X} {rest : List ℕ} → m ≡ 0 → last no_items ≡ v → ListLeft n whole last m row rest →
      whole ≡ done v rest
  unfolding read_items
  list_ends {last} {m} {v} {rest} z is l = l.same ∙ ap (λ i. into last (read_items (read_paper n) i rest)) z ∙ ap (λ x. done x rest) is

  -- the reading of a field's name, and then
  named : {last : Fields → X} {k m low : ℕ} {rest : List ℕ} {o : Outcome ℕ} → k ≡ suc m → RecordLeft n whole last k low row rest → number_from low rest ≡ o →
      whole ≡ into last (then o (field_then n m))
  unfolding read_fields field_then
  named {last} {k} {m} {low} {rest} {o} j l e = l.same ∙ ap (λ i. into last (read_fields (read_paper n) i low rest)) j ∙ ap (λ p. into last (then p (field_then n m))) e

  pub name_fails : {last : Fields → X} {k : ℕ} (m : ℕ) {low : ℕ} {rest : List ℕ} → k ≡ suc m → RecordLeft n whole last k low row rest →
      (w : Why) (left : List ℕ) → number_from low rest ≡ fault w left → whole ≡ fault w left
  name_fails {last} {k} m {low} {rest} j l w left e = named j l e

  pub record_ends : {last : Fields → X} {m low : ℕ} {v : X} {rest : List ℕ} → m ≡ 0 → last no_fields ≡ v → RecordLeft n whole last m low row rest →
      whole ≡ done v rest
  unfolding read_fields
  record_ends {last} {m} {low} {v} {rest} z is l = l.same ∙ ap (λ i. into last (read_fields (read_paper n) i low rest)) z ∙ ap (λ x. done x rest) is

  pub record_goes_on : {V : Type 0} {val : Paper → V} {last next : Fields → X} {k m low from x : ℕ} {v : V} {rest after later : List ℕ} → k ≡ suc m → from ≡ suc x →
      ((d : Paper) (fs : Fields) → val d ≡ v → last (field x d fs) ≡ next fs) →
      RecordLeft n whole last k low row rest → number_from low rest ≡ done x after → into val (read_paper n after) ≡ done v later →
      RecordLeft n whole next m from row later
  unfolding field_then
  record_goes_on {V} {val} {last} {next} {k} {m} {low} {from} {x} {v} {rest} {after} {later} j z h l e f =
      let p = into_done val (read_paper n after) v later f in
      record {
        same = named j l e
            ∙ ap (λ o. into last (then o (λ d final. into (field x d) (read_fields (read_paper n) m (suc x) final)))) p.1
            ∙ into_one (field x p.0) last next (λ fs. h p.0 fs p.2) (read_fields (read_paper n) m (suc x) later)
            ∙ ap (λ i. into next (read_fields (read_paper n) m i later)) (sym z);
        shorter = omega (arith, l.shorter, number_shortens _ _ e, paper_shortens val n after v later f);
      }

  pub field_fails : {V : Type 0} (val : Paper → V) {last : Fields → X} {k : ℕ} (m : ℕ) {low x : ℕ} {rest after : List ℕ} → k ≡ suc m → RecordLeft n whole last k low row rest →
      number_from low rest ≡ done x after → (w : Why) (left : List ℕ) → into val (read_paper n after) ≡ fault w left → whole ≡ fault w left
  unfolding field_then
  field_fails val {last} {k} m {low} {x} {rest} {after} j l e w left f =
      named j l e
      ∙ ap (λ o. into last (then o (λ d final. into (field x d) (read_fields (read_paper n) m (suc x) final)))) (into_fault val (read_paper n after) w left f)
