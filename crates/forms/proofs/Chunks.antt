-- A list cut into pieces of one length.
use Rattle.std.proofs.Common.{◌≡◌, ℕ, zero, suc, ◌+◌, ◌*◌, ◌-◌, ◌<◌, ◌≤◌, List, get_or, take, drop, ap, sym, ◌∙◌, zero-mul, suc-mul, arith}
use Rattle.std.proofs.lemmas.List.{get_or-take, get_or-drop, drop-drop, drop-take, take-take}
use Rattle.std.specs.Simd.{first_chunks}
use Rattle.forms.specs.Layout.{name_in, kind_in, mark_in, place_by, place_in}

-- An element of a piece.
pub piece_at : {X : Type 0} (n at : ℕ) (xs : List X) (i j : ℕ) (d : X) → i < n → j ≡ at + i → get_or (take n (drop at xs)) i d ≡ get_or xs j d
piece_at n at xs i j d h e = rw (e, get_or-take, get_or-drop)

chunk_at : {X : Type 0} (n k : ℕ) (xs : List X) (i : ℕ) (d : List X) → i < k → get_or (first_chunks n k xs) i d ≡ take n (drop (i * n) xs)
chunk_at n zero xs i d h = absurd (omega arith)
chunk_at n (suc k) xs zero d h = rw zero-mul
chunk_at n (suc k) xs (suc i) d h =
    let e : n + i * n ≡ suc i * n = omega (arith, suc-mul i n) in
    chunk_at n k (drop n xs) i d (omega arith) ∙ ap (take n) (drop-drop (i * n) n xs ∙ ap (λ (m : ℕ). drop m xs) e)

-- Piece i of a part of a list.
pub part_chunk : {X : Type 0} (n k m at : ℕ) (xs : List X) (i j : ℕ) (d : List X) → i < k → i * n + n ≤ m → j ≡ at + i * n →
    get_or (first_chunks n k (take m (drop at xs))) i d ≡ take n (drop j xs)
part_chunk n k m at xs i j d h l e =
    let ys = drop at xs in
    let f : m ≡ i * n + (m - i * n) = omega arith in
    chunk_at n k (take m ys) i d h
    ∙ (ap (λ (x : ℕ). take n (drop (i * n) (take x ys))) f
    ∙ (ap (take n) (drop-take (i * n) (m - i * n) ys)
    ∙ (take-take n (m - i * n) (drop (i * n) ys) (omega arith)
    ∙ (ap (take n) (drop-drop (i * n) at xs) ∙ ap (λ (x : ℕ). take n (drop x xs)) (sym e)))))

-- The three numbers of a place, cut out of its way.
pub place_numbers : (way numbers : List ℕ) (i : ℕ) → numbers ≡ take 3 (drop (4 + 3 * i) way) →
    (get_or numbers 0 0 ≡ name_in way 0 i) × (get_or numbers 1 0 ≡ kind_in way 0 i) × (get_or numbers 2 0 ≡ mark_in way 0 i)
place_numbers way numbers i e =
    let at = 4 + 3 * i in
    rw e (
      piece_at 3 at way 0 _ 0 (omega arith) (omega arith),
      piece_at 3 at way 1 _ 0 (omega arith) (omega arith),
      piece_at 3 at way 2 _ 0 (omega arith) (omega arith),
    )

pub place_cut : (way numbers : List ℕ) (i : ℕ) → numbers ≡ take 3 (drop (4 + 3 * i) way) → place_by numbers ≡ place_in way 0 i
unfolding place_in
place_cut way numbers i e = let n = place_numbers way numbers i e in rw (n.0, n.1, n.2)
