-- Sets of kinds, and families of sets: bit s of a family says whether the set s is in it.
use Rattle.std.proofs.Common.{◌≡◌, ℕ, zero, suc, ◌+◌, ◌^◌, ◌<◌, ◌≤◌, Bool, true, false, not, ◌||◌, eqb, ◌⊎◌, List, [], ◌∷◌, get_or, MatchBool, sym, refl, ap, ◌∙◌, subst, inl, inr, arith, pow_mono}
use lib.Bits.{bit_and, bit_or}
use Rattle.std.proofs.lemmas.Nat.{pow_pos, and_le_l, and_le_r}
use Rattle.std.proofs.lemmas.Bool.{cases_Bool, cases_lt, eqb-true, eq-eqb, and_parts, and_from, both_ways, not_from_false, not_from_true}
use Rattle.std.proofs.lemmas.Bool.Decides.{same_from_decides}
use Rattle.forms.specs.Fits.{every}
use Rattle.forms.proofs.Every.{every_at}
use Rattle.taking.specs.Masks.{mask, test, some_below}
use Rattle.taking.proofs.Below.{below_some, below_found}
use Rattle.taking.proofs.Masks.{mask_lt, test_mask, mask_or, mask_test, test_high, test_and, same_tests}
use Rattle.pairs.specs.Looks.{Inside}

below_pow : (n : ℕ) → n < 2 ^ n
below_pow zero = omega arith
below_pow (suc n) = omega (arith, below_pow n)

-- What is in a set below 2 ^ n is below n.
pub in_below : (n t k : ℕ) → t < 2 ^ n → test t k ≡ true → k < n
in_below n t k h e = elim (cases_lt k n) [ inl l ↦ l | inr l ↦ absurd (both_ways (test t k) (test_high t n k h l) e) ]

-- One number more in a set.
pub test_with : (s t k : ℕ) → test (bit_or s (2 ^ t)) k ≡ (test s k || eqb t k)
test_with s t k =
    let n = s + (t + suc k) in
    let small : s < 2 ^ n = omega (arith, below_pow s, pow_mono {i = s} {j = n} (omega arith)) in
    ap (λ x. test (bit_or x (2 ^ t)) k) (sym (mask_test n s small)) ∙ ap (λ x. test x k) (mask_or (test s) n t (omega arith))
    ∙ test_mask (λ j. test s j || eqb t j) n k (omega arith)

-- A set is inside another exactly if the `and` of both is it.
pub inside_from_and : (s t : ℕ) → bit_and s t ≡ s → Inside s t
inside_from_and s t e k h = (and_parts (test s k) (test t k) (sym (test_and s t k) ∙ ap (λ x. test x k) e ∙ h)).1

pub and_from_inside : (n s t : ℕ) → s < 2 ^ n → Inside s t → bit_and s t ≡ s
and_from_inside n s t h inside =
    same_tests n (bit_and s t) s (omega (arith, and_le_l s t)) h λ k l.
    same_from_decides {P = test s k ≡ true} (test (bit_and s t) k) (test s k)
    (λ e. (and_parts (test s k) (test t k) (sym (test_and s t k) ∙ e)).0, λ e. test_and s t k ∙ and_from (test s k) (test t k) e (inside k e)) (λ e. e, λ e. e)

-- So it is no larger, as a number.
pub inside_le : (s t : ℕ) → Inside s t → s ≤ t
inside_le s t h = omega (arith, and_from_inside s s t (below_pow s) h, and_le_r s t)

pub inside_itself : (t : ℕ) → Inside t t
inside_itself t k h = h

pub inside_then : (r s t : ℕ) → Inside r s → Inside s t → Inside r t
inside_then r s t p q k h = q k (p k h)

-- The empty set is inside all.
pub none_inside : (t : ℕ) → Inside 0 t
none_inside t k h = absurd (both_ways (test 0 k) (test_high 0 0 k (omega arith) (omega arith)) h)

-- For each set the family of those inside it, as the code has it.
abbrev pub inside_families : List ℕ
inside_families = 1 ∷ 3 ∷ 5 ∷ 15 ∷ 17 ∷ 51 ∷ 85 ∷ 255 ∷ 257 ∷ 771 ∷ 1285 ∷ 3855 ∷ 4369 ∷ 13107 ∷ 21845 ∷ 65535 ∷ []

inside_test : ℕ → ℕ → Bool
inside_test t s = eqb (bit_and s t) s

is_family : ℕ → Bool
is_family t = eqb (get_or inside_families t 0) (mask (inside_test t) 16)

all_families : every is_family 16 ≡ true
unfolding every is_family inside_test mask
all_families = refl

family_at : (t : ℕ) → t < 16 → get_or inside_families t 0 ≡ mask (inside_test t) 16
unfolding is_family
family_at t l = eqb-true (get_or inside_families t 0) (mask (inside_test t) 16) (every_at is_family 16 t all_families l)

small_family : (t : ℕ) → t < 16 → get_or inside_families t 0 < 2 ^ 16
small_family t l = subst (λ x. x < 2 ^ 16) (sym (family_at t l)) (mask_lt (inside_test t) 16)

-- A set is in it exactly if it is inside.
pub family_inside : (t s : ℕ) → t < 16 → test (get_or inside_families t 0) s ≡ true → (s < 16) × Inside s t
unfolding inside_test
family_inside t s l h =
    let small : s < 16 = in_below 16 (get_or inside_families t 0) s (small_family t l) h in
    let e = sym (test_mask (inside_test t) 16 s small) ∙ ap (λ x. test x s) (sym (family_at t l)) ∙ h in
    (small, inside_from_and s t (eqb-true (bit_and s t) s e))

pub inside_family : (t s : ℕ) → t < 16 → s < 16 → Inside s t → test (get_or inside_families t 0) s ≡ true
unfolding inside_test
inside_family t s l m h =
    ap (λ x. test x s) (family_at t l) ∙ test_mask (inside_test t) 16 s m
    ∙ eq-eqb (bit_and s t) s (and_from_inside 4 s t m h)

-- A number in which nothing is is 0; else something is.
pub some_in : (n m : ℕ) → m < 2 ^ n → (m ≡ 0 → ⊥) → (k : ℕ) × (k < n) × (test m k ≡ true)
some_in n m h some = go (cases_Bool (some_below (test m) n))
  where
    go : (some_below (test m) n ≡ true) ⊎ (some_below (test m) n ≡ false) → (k : ℕ) × (k < n) × (test m k ≡ true)
    go (inl e) = below_some (test m) n e
    go (inr e) =
        absurd (some (same_tests n m 0 h (pow_pos n) (λ k l. off k l (cases_Bool (test m k)) ∙ sym (test_high 0 0 k (omega arith) (omega arith)))))
      where
        off : (k : ℕ) → k < n → (test m k ≡ true) ⊎ (test m k ≡ false) → test m k ≡ false
        off k l (inl t) = absurd (both_ways (some_below (test m) n) e (below_found (test m) n k l t))
        off k l (inr t) = t

-- Whether a family has a set inside t, by one `and`.
pub family_covers : (F t v : ℕ) → t < 16 → v ≡ get_or inside_families t 0 →
    MatchBool (not (eqb (bit_and F v) 0)) ((s : ℕ) × (test F s ≡ true) × Inside s t) (((s : ℕ) × (test F s ≡ true) × Inside s t) → ⊥)
family_covers F t v l is = go (cases_Bool (eqb (bit_and F v) 0))
  where
    go : (eqb (bit_and F v) 0 ≡ true) ⊎ (eqb (bit_and F v) 0 ≡ false) →
        MatchBool (not (eqb (bit_and F v) 0)) ((s : ℕ) × (test F s ≡ true) × Inside s t) (((s : ℕ) × (test F s ≡ true) × Inside s t) → ⊥)
    go (inl e) =
        subst (λ b. MatchBool b ((s : ℕ) × (test F s ≡ true) × Inside s t) (((s : ℕ) × (test F s ≡ true) × Inside s t) → ⊥)) (sym (not_from_true (eqb (bit_and F v) 0) e)) λ u.
        let s = u.0 in
        let small : s < 16 = omega (arith, inside_le s t u.2) in
        let both : test (bit_and F v) s ≡ true = test_and F v s ∙ and_from (test F s) (test v s) u.1 (ap (λ x. test x s) is ∙ inside_family t s l small u.2) in
        both_ways (test 0 s) (test_high 0 0 s (omega arith) (omega arith)) (ap (λ x. test x s) (sym (eqb-true (bit_and F v) 0 e)) ∙ both)
    go (inr e) =
        let k = some_in 16 (bit_and F v) (omega (arith, and_le_r F v, small_family t l)) (λ z. both_ways (eqb (bit_and F v) 0) e (eq-eqb (bit_and F v) 0 z)) in
        let both = and_parts (test F k.0) (test v k.0) (sym (test_and F v k.0) ∙ k.2) in
        subst (λ b. MatchBool b ((s : ℕ) × (test F s ≡ true) × Inside s t) (((s : ℕ) × (test F s ≡ true) × Inside s t) → ⊥)) (sym (not_from_false (eqb (bit_and F v) 0) e))
        (k.0, both.0, (family_inside t k.0 l (ap (λ x. test x k.0) (sym is) ∙ both.1)).1)
