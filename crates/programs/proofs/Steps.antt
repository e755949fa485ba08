-- Numbers from the front of some bytes, and to the front of a row. Assumes nothing.
use Rattle.std.proofs.Common.{◌≡◌, ℕ, zero, suc, ◌+◌, ◌-◌, ◌*◌, ◌/◌, ◌<◌, ◌≤◌, List, [], ◌∷◌, ◌++◌, length, get_or, take, drop, set, sym, refl, ap, ◌∙◌, append_assoc, map, arith}
use Rattle.std.proofs.lemmas.List.{take_rest, take_more, drop_more, set_at, length-take-le}
use Rattle.std.specs.Simd.{first_chunks}
use Rattle.programs.specs.Bytes.{four, numbers_in}

-- the number that four bytes are
abbrev pub value : List ℕ → ℕ
value bytes = four (get_or bytes 0 0) (get_or bytes 1 0) (get_or bytes 2 0) (get_or bytes 3 0)

pub first_number : (xs : List ℕ) → 4 ≤ length xs → numbers_in xs ≡ value xs ∷ numbers_in (take (length xs - 4) (drop 4 xs))
unfolding numbers_in
first_number [] h = absurd (omega arith)
first_number (a ∷ []) h = absurd (omega arith)
first_number (a ∷ b ∷ []) h = absurd (omega arith)
first_number (a ∷ b ∷ c ∷ []) h = absurd (omega arith)
first_number (a ∷ b ∷ c ∷ d ∷ xs) h = ap (λ l. four a b c d ∷ numbers_in l) (sym (take_rest (a ∷ b ∷ c ∷ d ∷ xs) 4))

-- four bytes make a number
pub numbers_length : (xs : List ℕ) → length (numbers_in xs) ≡ length xs / 4
unfolding numbers_in
numbers_length [] = omega arith
numbers_length (a ∷ []) = omega arith
numbers_length (a ∷ b ∷ []) = omega arith
numbers_length (a ∷ b ∷ c ∷ []) = omega arith
numbers_length (a ∷ b ∷ c ∷ d ∷ xs) = omega (arith, numbers_length xs)

-- the numbers are those of the bytes four by four
pub chunks_numbers : (xs : List ℕ) → map value (first_chunks 4 (length xs / 4) xs) ≡ numbers_in xs
unfolding numbers_in
chunks_numbers [] = refl
chunks_numbers (a ∷ []) = refl
chunks_numbers (a ∷ b ∷ []) = refl
chunks_numbers (a ∷ b ∷ c ∷ []) = refl
chunks_numbers (a ∷ b ∷ c ∷ d ∷ xs) =
    let e : length (a ∷ b ∷ c ∷ d ∷ xs) / 4 ≡ suc (length xs / 4) = omega arith in
    rw e (ap (λ l. four a b c d ∷ l) (chunks_numbers xs))

-- the number at an index is that of the four bytes there
pub number_at : (xs : List ℕ) (i : ℕ) → 4 * i + 3 < length xs → get_or (numbers_in xs) i 0 ≡ four (get_or xs (4 * i) 0) (get_or xs (4 * i + 1) 0) (get_or xs (4 * i + 2) 0) (get_or xs (4 * i + 3) 0)
unfolding numbers_in
number_at [] i h = absurd (omega arith)
number_at (a ∷ []) i h = absurd (omega arith)
number_at (a ∷ b ∷ []) i h = absurd (omega arith)
number_at (a ∷ b ∷ c ∷ []) i h = absurd (omega arith)
number_at (a ∷ b ∷ c ∷ d ∷ xs) zero h = refl
number_at (a ∷ b ∷ c ∷ d ∷ xs) (suc i) h =
    let e₀ : 4 * suc i ≡ suc (suc (suc (suc (4 * i)))) = omega arith in
    let e₁ : 4 * suc i + 1 ≡ suc (suc (suc (suc (4 * i + 1)))) = omega arith in
    let e₂ : 4 * suc i + 2 ≡ suc (suc (suc (suc (4 * i + 2)))) = omega arith in
    let e₃ : 4 * suc i + 3 ≡ suc (suc (suc (suc (4 * i + 3)))) = omega arith in
    rw (e₃, e₂, e₁, e₀) (number_at xs i (omega arith))

-- one number more in the front of a row
pub one_written : (all row now : List ℕ) (i n : ℕ) → now ≡ take i all ++ drop i row → i < length all → i < length row → n ≡ get_or all i 0 → set now i n ≡ take (i + 1) all ++ drop (i + 1) row
one_written all row now i n e la lr p =
    let rest = drop (i + 1) row in
    ap (λ l. set l i n) e ∙ ap (λ l. set (take i all ++ l) i n) (drop_more row i 0 lr) ∙ set_at (take i all) (get_or row i 0) rest n i (length-take-le i all (omega arith)) ∙ ap (λ v. take i all ++ v ∷ rest) p
    ∙ sym (append_assoc (take i all) (get_or all i 0 ∷ []) rest) ∙ ap (λ l. l ++ rest) (sym (take_more all i 0 la))
