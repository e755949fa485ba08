-- Laws of masks: what is in one, and when two are the same. Assumes nothing.
use Rattle.std.proofs.Common.{◌≡◌, ℕ, zero, suc, ◌+◌, ◌-◌, ◌*◌, ◌/◌, ◌%◌, ◌^◌, ◌<◌, ◌≤◌, Bool, true, false, ◌&&◌, ◌||◌, eqb, sym, refl, ap, ◌∙◌, subst, inl, inr, mul_assoc, arith, pow_mono}
use native.Mathlib.Nat.{mul-add-mod_self_right}
use lib.Bits.{bit_and, bit_or, or_block, or_zero_r}
use Rattle.std.proofs.lemmas.Nat.{pow_pos, pow_below, pow-add, shr_high, field_of, div_below, mod_below, div-add-mod', and_shr, and_mod}
use Rattle.std.proofs.lemmas.Bool.{cases_order, cases_lt, eq-eqb, ne_eqb}
use Rattle.taking.specs.Masks.{bit, mask, test}

pub mask_lt : (p : ℕ → Bool) (n : ℕ) → mask p n < 2 ^ n
unfolding mask
mask_lt p zero = omega arith
mask_lt p (suc n) = at (p n) (mask_lt p n)
  where
    at : (b : Bool) → mask p n < 2 ^ n → bit b * 2 ^ n + mask p n < 2 ^ suc n
    at true h = omega arith
    at false h = omega arith

-- whether the highest number is in
test_top : (b : Bool) (n m : ℕ) → m < 2 ^ n → test (bit b * 2 ^ n + m) n ≡ b
test_top b n m h = ap (λ q. eqb (q % 2) 1) (shr_high (bit b) n m h) ∙ at b
  where
    at : (b : Bool) → eqb (bit b % 2) 1 ≡ b
    at true = refl
    at false = refl

-- what is above a number says nothing of it
test_low : (c n m k : ℕ) → k < n → test (c * 2 ^ n + m) k ≡ test m k
test_low c n m k h =
    let j = n - (1 + k) in
    let split : n ≡ j + (1 + k) = omega arith in
    let high : c * 2 ^ n ≡ (c * 2 ^ j) * 2 ^ (1 + k) = ap (λ i. c * 2 ^ i) split ∙ ap (λ i. c * i) (pow-add 2 j (1 + k)) ∙ sym (mul_assoc c (2 ^ j) (2 ^ (1 + k))) in
    let low : (c * 2 ^ n + m) % 2 ^ (1 + k) ≡ m % 2 ^ (1 + k) = ap (λ i. (i + m) % 2 ^ (1 + k)) high ∙ mul-add-mod_self_right (c * 2 ^ j) (2 ^ (1 + k)) m in
    ap (λ i. eqb i 1) (sym (field_of (c * 2 ^ n + m) 1 k) ∙ ap (λ i. i / 2 ^ k) low ∙ field_of m 1 k)

-- a number below n is in a mask exactly if it passes the test
pub test_mask : (p : ℕ → Bool) (n k : ℕ) → k < n → test (mask p n) k ≡ p k
unfolding mask
test_mask p zero k h = absurd (omega arith)
test_mask p (suc n) k h =
    elim (cases_order k n) [
      | inl e ↦ subst (λ i. test (bit (p n) * 2 ^ n + mask p n) i ≡ p i) (sym e) (test_top (p n) n (mask p n) (mask_lt p n))
      | inr o ↦
          elim o [
            | inl l ↦ test_low (bit (p n)) n (mask p n) k l ∙ test_mask p n k l
            | inr l ↦ absurd (omega arith)
          ]
    ]

-- no number that is too high is in it
pub test_high : (t n k : ℕ) → t < 2 ^ n → n ≤ k → test t k ≡ false
test_high t n k h l =
    let below : t < 1 * 2 ^ k = omega (arith, pow_mono l) in
    let none : t / 2 ^ k ≡ 0 = omega (arith, div_below t (2 ^ k) 1 (pow_pos k) below) in
    ap (λ q. eqb (q % 2) 1) none

-- a mask of a test that only numbers below n pass
pub test_whole : (p : ℕ → Bool) (n : ℕ) → ((k : ℕ) → n ≤ k → p k ≡ false) → (k : ℕ) → test (mask p n) k ≡ p k
test_whole p n h k =
    elim (cases_lt k n) [ inl l ↦ test_mask p n k l | inr l ↦ test_high (mask p n) n k (mask_lt p n) l ∙ sym (h k l) ]

pub mask_same : (p q : ℕ → Bool) (n : ℕ) → ((k : ℕ) → k < n → p k ≡ q k) → mask p n ≡ mask q n
unfolding mask
mask_same p q zero h = refl
mask_same p q (suc n) h =
    let top = h n (omega arith) in
    let rest = mask_same p q n (λ k l. h k (omega arith)) in
    ap (λ b. bit b * 2 ^ n + mask p n) top ∙ ap (λ m. bit (q n) * 2 ^ n + m) rest

-- the mask of all numbers below n
pub mask_all : (p : ℕ → Bool) (n : ℕ) → ((k : ℕ) → k < n → p k ≡ true) → mask p n + 1 ≡ 2 ^ n
unfolding mask
mask_all p zero h = refl
mask_all p (suc n) h =
    let rest = mask_all p n (λ k l. h k (omega arith)) in
    let top : bit (p n) * 2 ^ n ≡ 2 ^ n = ap (λ b. bit b * 2 ^ n) (h n (omega arith)) ∙ omega arith in
    omega arith

-- nothing is in it
pub mask_none : (p : ℕ → Bool) (n : ℕ) → ((k : ℕ) → k < n → p k ≡ false) → 0 ≡ mask p n
unfolding mask
mask_none p zero h = refl
mask_none p (suc n) h = mask_none p n (λ k l. h k (omega arith)) ∙ omega arith ∙ ap (λ b. bit b * 2 ^ n + mask p n) (sym (h n (omega arith)))

-- one more number in it
pub mask_or : (p : ℕ → Bool) (n k : ℕ) → k < n → bit_or (mask p n) (2 ^ k) ≡ mask (λ j. p j || eqb k j) n
unfolding mask
mask_or p zero k h = absurd (omega arith)
mask_or p (suc n) k h =
    elim (cases_order k n) [
      | inl e ↦
          let top : 2 ^ k ≡ 1 * 2 ^ n + 0 = ap (λ i. 2 ^ i) e ∙ omega arith in
          let rest : mask p n ≡ mask (λ j. p j || eqb k j) n = mask_same p (λ j. p j || eqb k j) n (λ j l. out (p j) (eqb k j) (ne_eqb k j (λ q. omega arith))) in
          ap (bit_or (bit (p n) * 2 ^ n + mask p n)) top ∙ or_block n (bit (p n)) 1 (mask p n) 0 (mask_lt p n) (pow_pos n)
          ∙ ap (λ x. x * 2 ^ n + bit_or (mask p n) 0) (in_bit (p n) (eqb k n) (eq-eqb k n e)) ∙ ap (λ x. bit (p n || eqb k n) * 2 ^ n + x) (or_zero_r (mask p n) ∙ rest)
      | inr o ↦ elim o [
        | inl l ↦
            let low : 2 ^ k ≡ 0 * 2 ^ n + 2 ^ k = omega arith in
            ap (bit_or (bit (p n) * 2 ^ n + mask p n)) low ∙ or_block n (bit (p n)) 0 (mask p n) (2 ^ k) (mask_lt p n) (pow_below k n l)
            ∙ ap (λ x. x * 2 ^ n + bit_or (mask p n) (2 ^ k)) (out_bit (p n) (eqb k n) (ne_eqb k n (λ q. omega arith))) ∙ ap (λ x. bit (p n || eqb k n) * 2 ^ n + x) (mask_or p n k l)
        | inr l ↦ absurd (omega arith)
      ]
    ]
  where
    out : (x y : Bool) → y ≡ false → x ≡ (x || y)
    out true y e = refl
    out false y e = sym e

    in_bit : (x y : Bool) → y ≡ true → bit_or (bit x) 1 ≡ bit (x || y)
    in_bit true y e = refl
    in_bit false y e = ap bit (sym e)

    out_bit : (x y : Bool) → y ≡ false → bit_or (bit x) 0 ≡ bit (x || y)
    out_bit true y e = refl
    out_bit false y e = ap bit (sym e)

-- what is in both of two masks
pub test_and : (s t k : ℕ) → test (bit_and s t) k ≡ (test s k && test t k)
test_and s t k =
    let a = s / 2 ^ k in
    let b = t / 2 ^ k in
    ap (λ q. eqb (q % 2) 1) (and_shr s t k) ∙ ap (λ q. eqb q 1) (and_mod a b 1) ∙ bits (a % 2) (b % 2) (mod_below a 2 (omega arith)) (mod_below b 2 (omega arith))
  where
    bits : (x y : ℕ) → x < 2 → y < 2 → eqb (bit_and x y) 1 ≡ (eqb x 1 && eqb y 1)
    bits zero zero h l = refl
    bits zero (suc zero) h l = refl
    bits zero (suc (suc y)) h l = absurd (omega arith)
    bits (suc zero) zero h l = refl
    bits (suc zero) (suc zero) h l = refl
    bits (suc zero) (suc (suc y)) h l = absurd (omega arith)
    bits (suc (suc x)) y h l = absurd (omega arith)

-- a number is the mask of what is in it; so numbers with the same in them are the same
pub mask_test : (n m : ℕ) → m < 2 ^ n → mask (test m) n ≡ m
unfolding mask
mask_test zero m h = omega arith
mask_test (suc n) m h =
    let hi = m / 2 ^ n in
    let lo = m % 2 ^ n in
    let split : hi * 2 ^ n + lo ≡ m = div-add-mod' m (2 ^ n) in
    let few : hi < 2 = div_below m (2 ^ n) 2 (pow_pos n) (omega arith) in
    let rest : mask (test m) n ≡ lo =
    mask_same (test m) (test lo) n (λ k l. ap (λ x. test x k) (sym split) ∙ test_low hi n lo k l) ∙ mask_test n lo (mod_below m (2 ^ n) (pow_pos n)) in
    ap (λ x. bit (test m n) * 2 ^ n + x) rest ∙ ap (λ x. x * 2 ^ n + lo) (top hi few) ∙ split
  where
    top : (x : ℕ) → x < 2 → bit (eqb (x % 2) 1) ≡ x
    top zero l = refl
    top (suc zero) l = refl
    top (suc (suc x)) l = absurd (omega arith)

pub same_tests : (n s t : ℕ) → s < 2 ^ n → t < 2 ^ n → ((k : ℕ) → k < n → test s k ≡ test t k) → s ≡ t
same_tests n s t h l same = sym (mask_test n s h) ∙ mask_same (test s) (test t) n same ∙ mask_test n t l
