-- Laws of outcomes, and of reading one number. Assumes nothing.
use Rattle.std.proofs.Common.{◌≡◌, ℕ, ◌<◌, ◌≤◌, Bool, true, false, cond, ◌&&◌, ltb, leb, List, [], ◌∷◌, refl, ap, subst, arith}
use Rattle.std.proofs.lemmas.Bool.{le-leb, lt-ltb, leb-true, ltb-true, and_from, and_parts}
use Rattle.papers.specs.declared.reading.Why.{Why}
use Rattle.papers.specs.declared.reading.Why.TheVariants.{NoPaper}
use Rattle.papers.specs.Row.{limit}
use Rattle.papers.specs.Reading.{Outcome, done, fault, then, into, number_from}

-- what was read was read on the way
pub then_done : {A B : Type 0} (o : Outcome A) (go : A → List ℕ → Outcome B) (b : B) (rest : List ℕ) → then o go ≡ done b rest → (a : A) × (mid : List ℕ) × (o ≡ done a mid) × (go a mid ≡ done b rest)
then_done (done a mid) go b rest e = (a, mid, refl, e)
then_done (fault w left) go b rest e = let z : ◌≡◌ {A = ℕ} 0 1 = cc in absurd (omega arith)

pub into_done : {A B : Type 0} (f : A → B) (o : Outcome A) (b : B) (rest : List ℕ) → into f o ≡ done b rest → (a : A) × (o ≡ done a rest) × (f a ≡ b)
into_done f (done a mid) b rest e = (a, (cc), (cc))
into_done f (fault w left) b rest e = let z : ◌≡◌ {A = ℕ} 0 1 = cc in absurd (omega arith)

pub into_fault : {A B : Type 0} (f : A → B) (o : Outcome A) (w : Why) (left : List ℕ) → into f o ≡ fault w left → o ≡ fault w left
into_fault f (done a mid) w left e = let z : ◌≡◌ {A = ℕ} 0 1 = cc in absurd (omega arith)
into_fault f (fault v mid) w left e = cc

-- a number that may stand here is read
pub number_reads : (low x : ℕ) (xs : List ℕ) → low ≤ x → x < limit → number_from low (x ∷ xs) ≡ done x xs
unfolding number_from
number_reads low x xs h l = ap (λ b. cond b (done x xs) (fault NoPaper (x ∷ xs))) (and_from (leb low x) (ltb x limit) (le-leb low x h) (lt-ltb x limit l))

-- a number that is read stands there
pub number_read : (low : ℕ) (xs : List ℕ) (x : ℕ) (rest : List ℕ) → number_from low xs ≡ done x rest → (xs ≡ x ∷ rest) × (low ≤ x) × (x < limit)
unfolding number_from
number_read low [] x rest e = let z : ◌≡◌ {A = ℕ} 0 1 = cc in absurd (omega arith)
number_read low (y ∷ ys) x rest e = at (leb low y && ltb y limit) refl e
  where
    at : (b : Bool) → (leb low y && ltb y limit) ≡ b → cond b (done y ys) (fault NoPaper (y ∷ ys)) ≡ done x rest → (y ∷ ys ≡ x ∷ rest) × (low ≤ x) × (x < limit)
    at true h r =
        let p = and_parts (leb low y) (ltb y limit) h in
        let same : y ≡ x = cc in
        ((cc), subst (λ n. low ≤ n) same (leb-true low y p.0), subst (λ n. n < limit) same (ltb-true y limit p.1))
    at false h r = let z : ◌≡◌ {A = ℕ} 0 1 = cc in absurd (omega arith)
