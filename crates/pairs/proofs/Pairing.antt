-- How many pairs were found: one more with each that is added, and at most 16 of each kind.
use Rattle.std.proofs.Common.{◌≡◌, ℕ, zero, suc, ◌+◌, ◌*◌, ◌<◌, ◌≤◌, Bool, true, false, ◌||◌, eqb, List, length, set, sym, refl, ap, ◌∙◌, inl, inr, arith}
use mathlib.Core.Bool.{or-false}
use Rattle.std.proofs.lemmas.List.{get_or-set_same, get_or-set_other}
use Rattle.std.proofs.lemmas.Bool.{cases_order, eq-eqb, ne_eqb, or_right}
use Rattle.taking.specs.Masks.{bit, test}
use Rattle.pairs.specs.declared.table.Found.{Found}
use Rattle.pairs.specs.Tables.{found_at, with_set, how_many, pairs_found}
use Rattle.pairs.proofs.Families.{test_with}

how_many_le : (p : ℕ → Bool) (n : ℕ) → how_many p n ≤ n
unfolding how_many
how_many_le p zero = omega arith
how_many_le p (suc n) = omega (arith, how_many_le p n, one (p n))
  where
    one : (b : Bool) → bit b ≤ 1
    one true = omega arith
    one false = omega arith

how_many_same : (p q : ℕ → Bool) (n : ℕ) → ((k : ℕ) → k < n → p k ≡ q k) → how_many p n ≡ how_many q n
unfolding how_many
how_many_same p q zero h = refl
how_many_same p q (suc n) h =
    ap (λ x. x + bit (p n)) (how_many_same p q n (λ k l. h k (omega arith))) ∙ ap (λ b. how_many q n + bit b) (h n (omega arith))

how_many_more : (p q : ℕ → Bool) (n t : ℕ) → t < n → p t ≡ false → q t ≡ true → ((k : ℕ) → (k ≡ t → ⊥) → p k ≡ q k) → how_many q n ≡ suc (how_many p n)
unfolding how_many
how_many_more p q zero t l off on h = absurd (omega arith)
how_many_more p q (suc n) t l off on h =
    elim (cases_order t n) [
      | inl e ↦
          let rest = how_many_same p q n (λ k b. h k (λ i. omega arith)) in
          let was = ap bit (ap p (sym e) ∙ off) in
          let is = ap bit (ap q (sym e) ∙ on) in
          omega arith
      | inr o ↦ elim o [
        | inl b ↦
            let rest = how_many_more p q n t b off on h in
            let same = ap bit (h n (λ i. omega arith)) in
            omega arith
        | inr b ↦ absurd (omega arith)
      ]
    ]

pub pairs_le : (fs : List Found) (n : ℕ) → pairs_found fs n ≤ n * 16
unfolding pairs_found
pairs_le fs zero = omega arith
pairs_le fs (suc n) = omega (arith, pairs_le fs n, how_many_le (test (found_at fs n).sets) 16)

pairs_same : (fs es : List Found) (n : ℕ) → ((a : ℕ) → a < n → (found_at fs a).sets ≡ (found_at es a).sets) → pairs_found fs n ≡ pairs_found es n
unfolding pairs_found
pairs_same fs es zero h = refl
pairs_same fs es (suc n) h =
    let rest = pairs_same fs es n (λ a l. h a (omega arith)) in
    let here = ap (λ s. how_many (test s) 16) (h n (omega arith)) in
    omega arith

-- The sets found of a kind with one more.
module _ (fs : List Found) (a t i : ℕ) (room : a < length fs) where
  pub found_here : found_at (set fs a (with_set (found_at fs a) t i)) a ≡ with_set (found_at fs a) t i
  found_here = get_or-set_same fs a (with_set (found_at fs a) t i) _ room

  pub found_other : (b : ℕ) → (b ≡ a → ⊥) → found_at (set fs a (with_set (found_at fs a) t i)) b ≡ found_at fs b
  found_other b ne = get_or-set_other fs a b (with_set (found_at fs a) t i) _ ne

  pub sets_here : (k : ℕ) → test (found_at (set fs a (with_set (found_at fs a) t i)) a).sets k ≡ (test (found_at fs a).sets k || eqb t k)
  sets_here k = ap (λ f. test f.sets k) found_here ∙ test_with (found_at fs a).sets t k

  pub pairs_more : (n : ℕ) → a < n → t < 16 → test (found_at fs a).sets t ≡ false →
      pairs_found (set fs a (with_set (found_at fs a) t i)) n ≡ suc (pairs_found fs n)
  unfolding pairs_found
  pairs_more zero l m off = absurd (omega arith)
  pairs_more (suc n) l m off =
      let es = set fs a (with_set (found_at fs a) t i) in
      let one : how_many (test (found_at es a).sets) 16 ≡ suc (how_many (test (found_at fs a).sets) 16) =
      how_many_more (test (found_at fs a).sets) (test (found_at es a).sets) 16 t m off
      (sets_here t ∙ or_right (test (found_at fs a).sets t) (eqb t t) (eq-eqb t t refl))
      (λ k ne. sym (sets_here k ∙ ap (λ b. test (found_at fs a).sets k || b) (ne_eqb t k (λ e. ne (sym e))) ∙ or-false (test (found_at fs a).sets k))) in
      elim (cases_order a n) [
        | inl e ↦
            let rest = pairs_same es fs n (λ b l. ap (λ f. f.sets) (found_other b (λ x. omega arith))) in
            let was = ap (λ x. how_many (test (found_at fs x).sets) 16) e in
            let is = ap (λ x. how_many (test (found_at es x).sets) 16) e in
            omega arith
        | inr o ↦ elim o [
          | inl b ↦
              let rest = pairs_more n b m off in
              let same = ap (λ f. how_many (test f.sets) 16) (found_other n (λ x. omega arith)) in
              omega arith
          | inr b ↦ absurd (omega arith)
        ]
      ]
