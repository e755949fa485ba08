-- Laws of `every` and of `first_failing`.
use Rattle.std.proofs.Common.{◌≡◌, ℕ, zero, suc, ◌<◌, ◌≤◌, Bool, true, false, cond, ◌&&◌, eqb, ◌⊎◌, List, length, get_or, take, sym, refl, ap, ap₂, ◌∙◌, subst, inl, inr, add-one, zero-add, arith}
use Rattle.std.proofs.lemmas.Bool.{and_parts, and_from, cases_order, cases_Bool, eq-eqb, ne_eqb, both_ways}
use Rattle.std.proofs.lemmas.List.Folds.{list_all_more}
use Rattle.std.proofs.lemmas.List.FromFn.{length-range_with_len, get_or-range_with_len}
use Rattle.std.proofs.lemmas.List.{take_all}
use Rattle.std.specs.List.{list_all, range_with_len}
use Rattle.forms.specs.Fits.{every, first_failing}

pub every_none : (p : ℕ → Bool) → every p 0 ≡ true
unfolding every
every_none p = refl

pub every_suc : (p : ℕ → Bool) (n : ℕ) → every p (suc n) ≡ (every p n && p n)
unfolding every
every_suc p n = refl

pub every_at : (p : ℕ → Bool) (n k : ℕ) → every p n ≡ true → k < n → p k ≡ true
every_at p zero k h l = absurd (omega arith)
every_at p (suc n) k h l =
    let parts = and_parts (every p n) (p n) (sym (every_suc p n) ∙ h) in
    elim (cases_order k n) [
      | inl e ↦ subst (λ (x : ℕ). p x ≡ true) (sym e) parts.1
      | inr o ↦ elim o [ inl b ↦ every_at p n k parts.0 b | inr b ↦ absurd (omega arith) ]
    ]

pub every_from : (p : ℕ → Bool) (n : ℕ) → ((k : ℕ) → k < n → p k ≡ true) → every p n ≡ true
every_from p zero h = every_none p
every_from p (suc n) h =
    every_suc p n ∙ and_from (every p n) (p n) (every_from p n (λ k l. h k (omega arith))) (h n (omega arith))

pub every_off : (p : ℕ → Bool) (n k : ℕ) → k < n → p k ≡ false → every p n ≡ false
every_off p n k l off = go (every p n) refl
  where
    go : (b : Bool) → every p n ≡ b → every p n ≡ false
    go true e = absurd (both_ways (p k) off (every_at p n k e l))
    go false e = e

pub first_failing_suc : (p : ℕ → Bool) (n : ℕ) →
    first_failing p (suc n) ≡ cond (every p n) (cond (p n) (suc n) n) (first_failing p n)
unfolding first_failing
first_failing_suc p n = refl

-- none fails
pub first_failing_none : (p : ℕ → Bool) (n : ℕ) → every p n ≡ true → first_failing p n ≡ n
unfolding first_failing
first_failing_none p zero h = refl
first_failing_none p (suc n) h =
    let parts = and_parts (every p n) (p n) (sym (every_suc p n) ∙ h) in rw (parts.0, parts.1)

-- the first that fails
pub first_failing_here : (p : ℕ → Bool) (n k : ℕ) → every p k ≡ true → p k ≡ false → k < n → first_failing p n ≡ k
first_failing_here p zero k h off l = absurd (omega arith)
first_failing_here p (suc n) k h off l =
    elim (cases_order k n) [
      | inl e ↦ first_failing_suc p n ∙ (rw (← e) (rw (h, off)))
      | inr o ↦
          elim o [
            | inl b ↦ first_failing_suc p n ∙ (rw (every_off p n k b off) (first_failing_here p n k h off b))
            | inr b ↦ absurd (omega arith)
          ]
    ]

-- Where a test fails below n, the first failing is below n, fails, and all before it pass.
pub first_failing_fails : (p : ℕ → Bool) (n : ℕ) → every p n ≡ false →
    (first_failing p n < n) × (p (first_failing p n) ≡ false) × (every p (first_failing p n) ≡ true)
first_failing_fails p zero h = absurd (both_ways (every p 0) h (every_none p))
first_failing_fails p (suc n) h = go (first_failing_fails p n) (cases_Bool (every p n)) (cases_Bool (p n))
  where
    go : (every p n ≡ false →
        (first_failing p n < n) × (p (first_failing p n) ≡ false) × (every p (first_failing p n) ≡ true)) →
        (every p n ≡ true) ⊎ (every p n ≡ false) → (p n ≡ true) ⊎ (p n ≡ false) →
        (first_failing p (suc n) < suc n) × (p (first_failing p (suc n)) ≡ false) × (every p (first_failing p (suc n)) ≡ true)
    go r (inl e) (inl f) = absurd (both_ways (every p (suc n)) h (every_suc p n ∙ and_from (every p n) (p n) e f))
    go r (inl e) (inr f) = rw (first_failing_here p (suc n) n e f (omega arith)) (omega arith, f, e)
    go r (inr e) _ = let s = r e in rw (first_failing_suc p n, e) (omega arith, s.1, s.2)

pub every_by_first : (p : ℕ → Bool) (n : ℕ) → every p n ≡ eqb (first_failing p n) n
every_by_first p n = go (cases_Bool (every p n))
  where
    go : (every p n ≡ true) ⊎ (every p n ≡ false) → every p n ≡ eqb (first_failing p n) n
    go (inl e) = e ∙ sym (eq-eqb (first_failing p n) n (first_failing_none p n e))
    go (inr e) = e ∙ sym (ne_eqb (first_failing p n) n (λ q. let b = (first_failing_fails p n e).0 in omega arith))

-- Two tests that agree below n.
pub every_same : (p q : ℕ → Bool) (n : ℕ) → ((i : ℕ) → i < n → p i ≡ q i) → every p n ≡ every q n
every_same p q zero h = every_none p ∙ sym (every_none q)
every_same p q (suc n) h =
    every_suc p n ∙ (ap₂ ◌&&◌ (every_same p q n (λ i l. h i (omega arith))) (h n (omega arith)) ∙ sym (every_suc q n))

-- Two tests at once.
pub every_and : (p q : ℕ → Bool) (n : ℕ) → every (λ i. p i && q i) n ≡ (every p n && every q n)
every_and p q zero = every_none (λ i. p i && q i) ∙ sym (ap₂ ◌&&◌ (every_none p) (every_none q))
every_and p q (suc n) =
    every_suc (λ i. p i && q i) n
    ∙ (ap (λ b. b && (p n && q n)) (every_and p q n) ∙ (crossed (every p n) (every q n) (p n) (q n) ∙ sym (ap₂ ◌&&◌ (every_suc p n) (every_suc q n))))
  where
    crossed : (a b c d : Bool) → ((a && b) && (c && d)) ≡ ((a && c) && (b && d))
    crossed false b c d = refl
    crossed true false false d = refl
    crossed true false true d = refl
    crossed true true c d = refl

-- A test of each of the first n elements of a list.
pub every_taken : {X : Type 0} (q : X → Bool) (p : ℕ → Bool) (xs : List X) (d : X) (n : ℕ) → n ≤ length xs →
    ((i : ℕ) → i < n → q (get_or xs i d) ≡ p i) → list_all q (take n xs) ≡ every p n
every_taken q p xs d zero h same = sym (every_none p)
every_taken q p xs d (suc n) h same =
    rw (← add-one)
    (list_all_more q xs n d (omega arith)
    ∙ (ap₂ ◌&&◌ (every_taken q p xs d n (omega arith) (λ i l. same i (omega arith))) (same n (omega arith)) ∙ (rw add-one (sym (every_suc p n)))))

-- A test of each number below n.
pub every_below : (p : ℕ → Bool) (n : ℕ) → list_all p (range_with_len 0 n) ≡ every p n
every_below p n =
    let xs = range_with_len 0 n in
    let l = length-range_with_len 0 n in
    ap (list_all p) (sym (take_all n xs (omega arith)))
    ∙ every_taken p p xs 0 n (omega arith) (λ i h. ap p (get_or-range_with_len 0 n i 0 h ∙ zero-add i))
