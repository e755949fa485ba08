-- Sums, and that what grows below a bound stands still.
use Rattle.std.proofs.Common.{ℕ, zero, suc, ◌+◌, ◌*◌, ◌<◌, ◌≤◌, ◌⊎◌, sym, subst, inl, inr, arith}
use Rattle.std.proofs.lemmas.Bool.{cases_lt, cases_order}

sum_below : (ℕ → ℕ) → ℕ → ℕ
sum_below h zero = 0
sum_below h (suc n) = sum_below h n + h n

sum_bounded : (h : ℕ → ℕ) (n c : ℕ) → ((i : ℕ) → h i ≤ c) → sum_below h n ≤ n * c
unfolding sum_below
sum_bounded h zero c l = omega arith
sum_bounded h (suc n) c l = omega (arith, l n, sum_bounded h n c l)

sum_more : (h k : ℕ → ℕ) (n : ℕ) → ((i : ℕ) → h i ≤ k i) → sum_below h n ≤ sum_below k n
unfolding sum_below
sum_more h k zero l = omega arith
sum_more h k (suc n) l = omega (arith, l n, sum_more h k n l)

-- Where no summand falls and the sum does not rise, no summand rises.
sum_same : (h k : ℕ → ℕ) (n : ℕ) → ((i : ℕ) → h i ≤ k i) → sum_below k n ≤ sum_below h n → (i : ℕ) → i < n → k i ≤ h i
unfolding sum_below
sum_same h k zero l e i b = absurd (omega arith)
sum_same h k (suc n) l e i b =
    elim (cases_order i n) [
      | inl s ↦ subst (λ j. k j ≤ h j) (sym s) (omega (arith, sum_more h k n l))
      | inr o ↦ elim o [ inl s ↦ sum_same h k n l (omega (arith, l n)) i s | inr s ↦ absurd (omega arith) ]
    ]

-- What does not stand still rises by one at each step.
rises : (c : ℕ → ℕ) (n : ℕ) → ((r : ℕ) × (r < n) × (c (suc r) ≤ c r)) ⊎ (n ≤ c n)
rises c zero = inr (omega arith)
rises c (suc n) =
    elim (rises c n) [
      | inl s ↦ inl (s.0, omega (arith, s.1), s.2)
      | inr l ↦ elim (cases_lt (c n) (c (suc n))) [ inl m ↦ inr (omega arith) | inr m ↦ inl (n, omega arith, m) ]
    ]

-- So what is never above n stands still somewhere up to n.
stands_still : (c : ℕ → ℕ) (n : ℕ) → ((r : ℕ) → c r ≤ n) → (r : ℕ) × (r ≤ n) × (c (suc r) ≤ c r)
stands_still c n l =
    elim (rises c (suc n)) [ inl s ↦ (s.0, omega (arith, s.1), s.2) | inr m ↦ absurd (omega (arith, l (suc n))) ]

-- A decided statement counts one if it holds.
abbrev one_if : {A : Type 0} → Dec A → ℕ
one_if (yes a) = 1
one_if (no n) = 0

one_if_few : {A : Type 0} (d : Dec A) → one_if d ≤ 1
one_if_few (yes a) = omega arith
one_if_few (no n) = omega arith

one_if_more : {A B : Type 0} (d : Dec A) (e : Dec B) → (A → B) → one_if d ≤ one_if e
one_if_more (yes a) (yes b) h = omega arith
one_if_more (yes a) (no n) h = absurd (n (h a))
one_if_more (no m) (yes b) h = omega arith
one_if_more (no m) (no n) h = omega arith

one_if_back : {A B : Type 0} (d : Dec A) (e : Dec B) → one_if e ≤ one_if d → B → A
one_if_back (yes a) e l b = a
one_if_back (no m) (yes b) l c = absurd (omega arith)
one_if_back (no m) (no n) l b = absurd (n b)

-- A growing family of decided properties of pairs below n and m stands still somewhere up to n * m.
module _ (P : ℕ → ℕ → ℕ → Type 0) (decide : (r a t : ℕ) → Dec (P r a t)) (grows : (r a t : ℕ) → P r a t → P (suc r) a t) (n m : ℕ) where
  mark : ℕ → ℕ → ℕ → ℕ
  mark r a t = one_if (decide r a t)

  row : ℕ → ℕ → ℕ
  row r a = sum_below (mark r a) m

  all : ℕ → ℕ
  all r = sum_below (row r) n

  mark_more : (r a t : ℕ) → mark r a t ≤ mark (suc r) a t
  unfolding mark
  mark_more r a t = one_if_more (decide r a t) (decide (suc r) a t) (grows r a t)

  row_more : (r a : ℕ) → row r a ≤ row (suc r) a
  unfolding row
  row_more r a = sum_more (mark r a) (mark (suc r) a) m (mark_more r a)

  row_few : (r a : ℕ) → row r a ≤ m
  unfolding row mark
  row_few r a = omega (arith, sum_bounded (mark r a) m 1 (λ t. one_if_few (decide r a t)))

  all_few : (r : ℕ) → all r ≤ n * m
  unfolding all
  all_few r = sum_bounded (row r) n m (row_few r)

  pub family_stands : (r : ℕ) × (r ≤ n * m) × ((a t : ℕ) → a < n → t < m → P (suc r) a t → P r a t)
  unfolding all row mark
  family_stands =
      let s = stands_still all (n * m) all_few in
      let r = s.0 in (
        r,
        s.1,
        λ a t l k.
            let same = sum_same (row r) (row (suc r)) n (row_more r) s.2 a l in
            one_if_back (decide r a t) (decide (suc r) a t) (sum_same (mark r a) (mark (suc r) a) m (mark_more r a) same t k),
      )
