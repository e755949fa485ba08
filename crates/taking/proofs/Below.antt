-- Laws of `some_below`: some number below n passes a test. Assumes nothing.
use Rattle.std.proofs.Common.{◌≡◌, ℕ, zero, suc, ◌+◌, ◌<◌, Bool, true, false, ◌||◌, List, [], ◌∷◌, length, get_or, sym, refl, ap, ◌∙◌, inl, inr, add-one, arith}
use mathlib.Core.Bool.{or_assoc}
use Rattle.std.proofs.lemmas.Bool.{cases_order, or_left, or_right, or_cases}
use Rattle.forms.specs.Form.{Way}
use Rattle.taking.specs.Masks.{some_below}
use Rattle.taking.specs.Takes.{any}

pub below_none : (p : ℕ → Bool) → some_below p 0 ≡ false
unfolding some_below
below_none p = refl

pub below_suc : (p : ℕ → Bool) (n : ℕ) → some_below p (n + 1) ≡ (some_below p n || p n)
unfolding some_below
below_suc p n = ap (some_below p) (add-one n)

-- it can be found
pub below_some : (p : ℕ → Bool) (n : ℕ) → some_below p n ≡ true → (k : ℕ) × (k < n) × (p k ≡ true)
unfolding some_below
below_some p zero e = let z : ◌≡◌ {A = ℕ} 0 1 = cc in absurd (omega arith)
below_some p (suc n) e =
    elim (or_cases (some_below p n) (p n) e) [
      | inl h ↦ let k = below_some p n h in (k.0, omega (arith, k.1), k.2)
      | inr h ↦ (n, omega arith, h)
    ]

pub below_found : (p : ℕ → Bool) (n k : ℕ) → k < n → p k ≡ true → some_below p n ≡ true
unfolding some_below
below_found p zero k l h = absurd (omega arith)
below_found p (suc n) k l h =
    elim (cases_order k n) [
      | inl e ↦ or_right (some_below p n) (p n) (ap p (sym e) ∙ h)
      | inr o ↦ elim o [ inl b ↦ or_left (some_below p n) (p n) (below_found p n k b h) | inr b ↦ absurd (omega arith) ]
    ]

pub below_same : (p q : ℕ → Bool) (n : ℕ) → ((k : ℕ) → k < n → p k ≡ q k) → some_below p n ≡ some_below q n
unfolding some_below
below_same p q zero h = refl
below_same p q (suc n) h =
    ap (λ b. b || p n) (below_same p q n (λ k l. h k (omega arith))) ∙ ap (λ b. some_below q n || b) (h n (omega arith))

-- from the front
below_front : (p : ℕ → Bool) (n : ℕ) → some_below p (suc n) ≡ (p 0 || some_below (λ k. p (suc k)) n)
unfolding some_below
below_front p zero = swap (p 0)
  where
    swap : (b : Bool) → (false || b) ≡ (b || false)
    swap true = refl
    swap false = refl
below_front p (suc n) = ap (λ b. b || p (suc n)) (below_front p n) ∙ or_assoc (p 0) (some_below (λ k. p (suc k)) n) (p (suc n))

-- one of the ways passes, by their indices
pub any_below : (p : Way → Bool) (d : Way) (ws : List Way) → any p ws ≡ some_below (λ w. p (get_or ws w d)) (length ws)
unfolding any some_below
any_below p d [] = refl
any_below p d (w ∷ ws) = ap (λ b. p w || b) (any_below p d ws) ∙ sym (below_front (λ i. p (get_or (w ∷ ws) i d)) (length ws))
