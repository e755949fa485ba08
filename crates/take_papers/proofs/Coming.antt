-- One paper from the front of the bytes that are held. Assumes nothing.
use Rattle.std.proofs.Common.{◌≡◌, ℕ, ◌+◌, ◌-◌, ◌*◌, ◌/◌, ◌<◌, ◌≤◌, min, List, ◌∷◌, ◌++◌, length, get_or, take, drop, Some, Ok, Option, sym, ap, ◌∙◌, subst, append_assoc, arith}
use Rattle.std.proofs.lemmas.List.Edits.{length-between}
use Rattle.std.proofs.lemmas.List.{take_rest, take_all, take_at, drop_at, take-append-drop, length-append, length-take-le, get_or-take, get_or_append_left}
use Rattle.std.proofs.lemmas.Slice.{between_is}
use Rattle.std.specs.List.{between}
use Rattle.programs.specs.Bytes.{numbers_in}
use Rattle.programs.proofs.Steps.{first_number, numbers_length}
use Rattle.take_papers.specs.Coming.{first, Counted, Came}
use Rattle.take_papers.specs.Held.{GoesOn}

-- what is told of a paper's length, at the bytes that are held
pub counted_some : (bytes held : List ℕ) (count : Option ℕ) (n : ℕ) → bytes ≡ held → count ≡ Some n → Counted bytes (Ok count) → (4 ≤ length held) × (first held ≡ n) × (n ≤ 1000)
counted_some bytes held count n e p h = subst (λ b. Counted b (Ok (Some n))) e (subst (λ v. Counted bytes (Ok v)) p h)

-- a paper's length stays where it is when more is read
first_same : (xs ys : List ℕ) → ((i : ℕ) → i < 4 → get_or xs i 0 ≡ get_or ys i 0) → first xs ≡ first ys
first_same xs ys e = cc (e 0 (omega arith), e 1 (omega arith), e 2 (omega arith), e 3 (omega arith))

first_stays : (xs ys : List ℕ) → GoesOn xs ys → 4 ≤ length xs → first ys ≡ first xs
first_stays xs ys (came, e) h =
    first_same ys xs (λ i l. ap (λ v. get_or v i 0) e ∙ get_or_append_left xs came 0 i (omega arith))

-- a paper that is cut short, of whose length so many numbers are told
pub cut_short : (begun held : List ℕ) (n : ℕ) → GoesOn begun held → 4 ≤ length begun → first begun ≡ n → length held < 4 + 4 * n → (4 ≤ length held) × (length held < 4 + 4 * first held)
cut_short begun held n (came, e) four-there first-is short =
    let same : first held ≡ n = first_stays begun held (came, e) four-there ∙ first-is in
    (omega (arith, ap length e, length-append begun came), omega arith)

-- the numbers of a paper's bytes: its length, and those of the bytes behind that
numbers_used : (xs : List ℕ) (size : ℕ) → 4 ≤ size → size ≤ length xs → numbers_in (take size xs) ≡ first xs ∷ numbers_in (between 4 size xs)
numbers_used xs size h l =
    let used = take size xs in
    let long : length used ≡ size = length-take-le size xs l in
    let same : first used ≡ first xs = first_same used xs (λ i b. get_or-take size xs i 0 (omega arith)) in
    first_number used (omega arith) ∙ ap (λ n. n ∷ numbers_in (take (length used - 4) (drop 4 used))) same
    ∙ ap (λ v. first xs ∷ numbers_in v) (take_rest used 4 ∙ sym (between_is xs 4 size))

-- the row, once the numbers are written to its front
row_front : (all old row : List ℕ) (n : ℕ) → length all ≡ n → n ≤ length old → row ≡ take n all ++ drop n old → (take n row ≡ all) × (drop n row ≡ drop n old)
row_front all old row n e h p =
    let whole : take n all ≡ all = take_all n all (omega arith) in
    let row_is : row ≡ all ++ drop n old = p ∙ ap (λ v. v ++ drop n old) whole in
    (ap (take n) row_is ∙ take_at all (drop n old) n e, ap (drop n) row_is ∙ drop_at all (drop n old) n e)

-- a paper: `begun` is held when its length is there, `held` when all of it is, `lent` is what is held as it is lent
pub paper_came : (before begun held lent after old row : List ℕ) (n count : ℕ) {skipped : ℕ} → after ≡ drop skipped held → skipped ≡ 4 + 4 * n → lent ≡ held → GoesOn before begun → GoesOn begun held → 4 ≤ length begun → first begun ≡ n → n ≤ 1000 → 4 + 4 * n ≤ length lent → length old ≡ 1000 → count ≡ min (length (between 4 (4 + 4 * n) lent) / 4) (length old) → row ≡ take count (numbers_in (between 4 (4 + 4 * n) lent)) ++ drop count old → Came before after old row n
paper_came before begun held lent after old row n count after_is skipped-is Lent-is (p, e) (q, f) four-there first-is few there long count-is row_is =
    let size = 4 + 4 * n in
    let part = between 4 size lent in
    let part-long : length part ≡ size - 4 = length-between lent 4 size there in
    let count-n : count ≡ n = omega arith in
    let all-long : length (numbers_in part) ≡ n = omega (arith, numbers_length part) in
    let front = row_front (numbers_in part) old row n all-long (omega arith) (subst (λ k. row ≡ take k (numbers_in part) ++ drop k old) count-n row_is) in
    let all-is : before ++ (p ++ q) ≡ lent = sym (append_assoc before p q) ∙ ap (λ v. v ++ q) (sym e) ∙ sym f ∙ sym Lent-is in
    let rest-is : drop size lent ≡ after = ap (drop size) Lent-is ∙ ap (λ k. drop k held) (sym skipped-is) ∙ sym after_is in
    let first-n : first lent ≡ n = first_stays begun lent (q, Lent-is ∙ f) four-there ∙ first-is in
    record {
      few = few;
      came = p ++ q;
      used = take size lent;
      all = all-is ∙ sym (take-append-drop size lent) ∙ ap (λ v. take size lent ++ v) rest-is;
      size = length-take-le size lent there;
      numbers = numbers_used lent size (omega arith) there ∙ ap (λ k. k ∷ numbers_in part) first-n ∙ ap (λ v. n ∷ v) (sym front.0);
      rest = front.1;
    }
