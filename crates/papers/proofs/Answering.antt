-- From what a reading comes to, to what the entries answer, and the laws of rows. Assumes nothing.
use Rattle.std.proofs.Common.{◌≡◌, ℕ, suc, ◌+◌, ◌-◌, ◌<◌, true, List, [], ◌∷◌, ◌++◌, length, take, Ok, Err, Result, sym, refl, ap, ◌∙◌, subst, inl, inr, append-nil, add-one, arith}
use Rattle.std.proofs.lemmas.List.{length-append}
use Rattle.papers.specs.declared.reading.Fault.{Fault}
use Rattle.papers.specs.declared.reading.Part.{Part}
use Rattle.papers.specs.declared.reading.Why.{Why}
use Rattle.papers.specs.declared.reading.Why.TheVariants.{NoPaper, Deeper}
use Rattle.papers.specs.declared.refusal.Refusal.{Refusal}
use Rattle.papers.specs.Paper.{Paper, well, deep}
use Rattle.papers.specs.Row.{row_of, fits}
use Rattle.papers.specs.Reading.{Outcome, done, fault, into, alone, read_paper, read_row, deepest}
use Rattle.papers.specs.Refusals.{number_of, place_of}
use Rattle.papers.specs.Telling.{Told, Stands, FrontTold, number_for, Refuses, TurnedAway}
use Rattle.papers.specs.Laws.{RoundTrip, OnlyWritten, RowInjective, PrefixFree}
use Rattle.papers.proofs.Outcomes.{into_done, into_fault}
use Rattle.papers.proofs.Encoding.{Comes, paper_comes}
use Rattle.papers.proofs.Standing.{paper_read}
use Rattle.papers.proofs.Causal.{paper_causal, back, moved, Alike}
use Rattle.papers.proofs.Fronts.{same_paper}

-- a written paper at which a reading fails is too deep
comes_fault : {A : Type 0} (n : ℕ) (o : Outcome A) (a : A) (rest : List ℕ) (depth : ℕ) (w : Why) (left : List ℕ) → Comes n o a rest depth → o ≡ fault w left → (w ≡ Deeper) × (n < depth)
comes_fault n o a rest depth w left (inl h) e = let p = h.0 in let z : ◌≡◌ {A = ℕ} 0 1 = cc in absurd (omega arith)
comes_fault n o a rest depth w left (inr h) e = let p = h.1 in ((cc), h.2)

front_answer : (n : ℕ) (xs : List ℕ) (r : Result (Part ℕ) Fault) → Told (into deep (read_paper n xs)) r → FrontTold n xs r
front_answer n xs (Ok part) h =
    let p = into_done deep (read_paper n xs) part.value part.rest.now h in
    (p.0, paper_read n xs p.0 part.rest.now p.1, sym p.2)
front_answer n xs (Err f) h =
    let e = into_fault deep (read_paper n xs) f.why h.0 h.1 in
    record { left = h.0; comes = e; left_is = h.2; only_deeper = λ d rest g s r. comes_fault n _ d rest (deep d) f.why h.0 (paper_comes d n rest g s) (ap (read_paper n) (sym r) ∙ e) }

pub front_told : (n m : ℕ) (xs : List ℕ) (r : Result (Part ℕ) Fault) → Told (into deep (read_paper m xs)) r → m ≡ n → FrontTold n xs r
front_told n m xs r h l = subst (λ k. FrontTold k xs r) l (front_answer m xs r h)

-- nothing behind a paper, or something
module _ {X : Type 0} (val : Paper → X) (xs : List ℕ) where
  pub whole_fails : (w : Why) (left : List ℕ) → into val (read_paper deepest xs) ≡ fault w left → into val (read_row xs) ≡ fault w left
  unfolding read_row
  whole_fails w left e = ap (λ o. into val (alone o)) (into_fault val (read_paper deepest xs) w left e)

  pub whole_behind : (v : X) (rest : List ℕ) → into val (read_paper deepest xs) ≡ done v rest → 0 < length rest →
      into val (read_row xs) ≡ fault NoPaper rest
  unfolding read_row
  whole_behind v [] e h = absurd (omega arith)
  whole_behind v (x ∷ rest) e h = ap (λ o. into val (alone o)) (into_done val (read_paper deepest xs) v (x ∷ rest) e).1

  pub whole_alone : (v : X) (rest : List ℕ) → into val (read_paper deepest xs) ≡ done v rest → length rest < 1 →
      into val (read_row xs) ≡ done v rest
  unfolding read_row
  whole_alone v [] e h =
      let p = into_done val (read_paper deepest xs) v [] e in
      ap (λ o. into val (alone o)) p.1 ∙ ap (λ i. done i []) p.2
  whole_alone v (x ∷ rest) e h = absurd (omega arith)

-- what a whole row is read as
row_read : (xs : List ℕ) (d : Paper) (rest : List ℕ) → read_row xs ≡ done d rest → (read_paper deepest xs ≡ done d []) × (rest ≡ [])
unfolding read_row
row_read xs d rest e = at (read_paper deepest xs) refl e
  where
    at : (o : Outcome Paper) → read_paper deepest xs ≡ o → alone o ≡ done d rest → (read_paper deepest xs ≡ done d []) × (rest ≡ [])
    at (done b []) p q = let same : b ≡ d = cc in (p ∙ ap (λ k. done k []) same, (cc))
    at (done b (x ∷ more)) p q = let z : ◌≡◌ {A = ℕ} 0 1 = cc in absurd (omega arith)
    at (fault w left) p q = let z : ◌≡◌ {A = ℕ} 0 1 = cc in absurd (omega arith)

pub only_written : OnlyWritten
only_written xs d rest e =
    let p = row_read xs d rest e in
    let s = paper_read deepest xs d [] p.0 in
    (s.row ∙ append-nil (row_of d), p.1, s.good, s.small, s.flat)

-- a written paper as a whole row
row_comes : (d : Paper) → well d ≡ true → fits d ≡ true → Comes deepest (read_row (row_of d)) d [] (deep d)
unfolding read_row
row_comes d g s = at (paper_comes d deepest [] g s)
  where
    at : Comes deepest (read_paper deepest (row_of d ++ [])) d [] (deep d) → Comes deepest (alone (read_paper deepest (row_of d))) d [] (deep d)
    at (inl h) = inl (ap (λ l. alone (read_paper deepest l)) (sym (append-nil (row_of d))) ∙ ap alone h.0, h.1)
    at (inr h) = inr (h.0, ap (λ l. alone (read_paper deepest l)) (sym (append-nil (row_of d))) ∙ ap alone h.1, h.2)

pub round_trip : RoundTrip
round_trip d g s f = elim (row_comes d g s) [ inl h ↦ h.0 | inr h ↦ absurd (omega (arith, h.2)) ]

pub prefix_free : PrefixFree
prefix_free d e rest h = same_paper d e rest [] (h ∙ sym (append-nil (row_of e)))

pub row_injective : RowInjective
row_injective d e h = (same_paper d e [] [] (ap (λ l. l ++ []) h)).0

-- rows that are the same up to a number behind a front
same_front : (front left ys : List ℕ) → take (suc (length front)) ys ≡ take (suc (length front)) (front ++ left) → (zs : List ℕ) × (ys ≡ front ++ zs) × (take 1 zs ≡ take 1 left)
same_front [] left ys e = (ys, refl, e)
same_front (x ∷ front) left [] e = let z : ◌≡◌ {A = ℕ} 0 1 = cc in absurd (omega arith)
same_front (x ∷ front) left (y ∷ ys) e =
    let p = same_front front left ys (cc) in
    let same : y ≡ x = cc in
    (p.0, (λ i. same i ∷ p.1 i), p.2)

place_is : (xs front left : List ℕ) → xs ≡ front ++ left → length xs - length left ≡ length front
place_is xs front left e = omega (arith, ap length e ∙ length-append front left)

-- what is refused stays refused as long as it begins alike from there on
still_refused : (o : Outcome Paper) (w : Why) (left zs : List ℕ) → alone o ≡ fault w left → take 1 zs ≡ take 1 left → (back o ≡ left) × Alike o zs × (alone (moved o zs) ≡ fault w zs)
still_refused (done b []) w left zs e h = let z : ◌≡◌ {A = ℕ} 0 1 = cc in absurd (omega arith)
still_refused (done b (x ∷ more)) w left [] e h =
    let k : x ∷ more ≡ left = cc in
    let l : [] ≡ take 1 (x ∷ more) = h ∙ ap (take 1) (sym k) in
    let z : ◌≡◌ {A = ℕ} 0 1 = cc in
    absurd (omega arith)
still_refused (done b (x ∷ more)) w left (y ∷ zs) e h = let same : NoPaper ≡ w = cc in ((cc), tt, ap (λ v. fault v (y ∷ zs)) same)
still_refused (fault v last) w left zs e h =
    let same : v ≡ w = cc in
    let k : last ≡ left = cc in
    (k, h ∙ ap (take 1) (sym k), ap (λ u. fault u zs) same)

-- a reading that is refused looks no further than the place told
alike : (xs ys : List ℕ) (e : Refusal) (w : Why) (left : List ℕ) → read_row xs ≡ fault w left → number_of e ≡ number_for w → place_of e ≡ length xs - length left → take (place_of e + 1) ys ≡ take (place_of e + 1) xs → Refuses ys (read_row ys) e
unfolding read_row
alike xs ys e w left a num place same =
    let o = read_paper deepest xs in
    let c = paper_causal deepest xs o refl in
    let split : xs ≡ c.front ++ left = c.split ∙ ap (λ l. c.front ++ l) (still_refused o w left left a refl).0 in
    let at : place_of e ≡ length c.front = place ∙ place_is xs c.front left split in
    let p = same_front c.front left ys (subst (λ k. take k ys ≡ take k (c.front ++ left)) (add-one (place_of e) ∙ ap suc at) (same ∙ ap (take (place_of e + 1)) split)) in
    let q = still_refused o w left p.0 a p.2 in
    let r : alone (read_paper deepest ys) ≡ fault w p.0 = ap (λ l. alone (read_paper deepest l)) p.1 ∙ ap alone (c.same p.0 q.1) ∙ q.2 in
    subst (λ k. Refuses ys k e) (sym r) (num, at ∙ sym (place_is ys c.front p.0 p.1))

pub turned_away : {X : Type 0} (val : Paper → X) (xs : List ℕ) (w : Why) (left : List ℕ) (k : ℕ) (e : Refusal) →
    into val (read_row xs) ≡ fault w left → k ≡ length left → number_of e ≡ number_for w → place_of e ≡ length xs - k → TurnedAway xs e
turned_away val xs w left k e h long num place =
    let f = into_fault val (read_row xs) w left h in
    let at : place_of e ≡ length xs - length left = place ∙ ap (λ i. length xs - i) long in
    record {
      told = subst (λ o. Refuses xs o e) (sym f) (num, at);
      only_deeper = λ d g s r. let p = comes_fault deepest _ d [] (deep d) w left (row_comes d g s) (ap read_row (sym r) ∙ f) in (num ∙ ap number_for p.0, p.1);
      no_further = λ ys same. alike xs ys e w left f num at same;
    }

-- the paper that a whole row is
pub row_stands : {X : Type 0} (val : Paper → X) (xs : List ℕ) (v : X) (rest : List ℕ) → into val (read_row xs) ≡ done v rest →
    (d : Paper) × Stands deepest xs d [] × (v ≡ val d)
row_stands val xs v rest h =
    let p = into_done val (read_row xs) v rest h in
    (p.0, paper_read deepest xs p.0 [] (row_read xs p.0 rest p.1).0, sym p.2)
