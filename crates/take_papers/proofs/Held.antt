-- What a block holds after each step. Assumes nothing.
use Rattle.std.proofs.Common.{◌≡◌, ℕ, ◌+◌, ◌≤◌, List, [], ◌++◌, length, take, drop, sym, ap, ◌∙◌, append_assoc, append-nil, arith, rules}
use borrow.Rule.Slice.PartMut.{put_mid}
use Rattle.std.proofs.lemmas.List.{drop-drop, same_lists, places}
use Rattle.std.proofs.lemmas.Slice.{between_is}
use Rattle.std.specs.List.{between}
use Rattle.take_papers.specs.Held.{GoesOn}

-- the same bytes go on with none
pub stays : (before after : List ℕ) → after ≡ before → GoesOn before after
stays before after e = ([], e ∙ sym (append-nil before))

-- what goes on, and on again
pub goes_further : (a b c : List ℕ) → GoesOn a b → GoesOn b c → GoesOn a c
goes_further a b c (p, e) (q, f) = (p ++ q, f ∙ ap (λ l. l ++ q) e ∙ append_assoc a p q)

pub goes_on_from : (a b c : List ℕ) → b ≡ a → GoesOn b c → GoesOn a c
goes_on_from a b c e h = goes_further a b c (stays a b e) h

-- without the first bytes
pub skipped : (bytes : List ℕ) (start end n : ℕ) → between (start + n) end bytes ≡ drop n (between start end bytes)
skipped bytes start end n = between_is bytes (start + n) end ∙ sym (drop-drop n start (take end bytes)) ∙ ap (drop n) (sym (between_is bytes start end))

-- with what was read behind
pub read_on : (bytes came : List ℕ) (start end room n : ℕ) → start ≤ end → end ≤ length bytes → n ≤ length came → between start (end + n) (put_mid end room bytes came) ≡ between start end bytes ++ take n came
read_on bytes came start end room n s e h = same_lists _ _ (search (rules, places)) (λ k d l. grind (arith, places))

-- the same if the reading failed, whatever it wrote
pub read_none : (bytes came : List ℕ) (start end room : ℕ) → start ≤ end → end ≤ length bytes → GoesOn (between start end bytes) (between start end (put_mid end room bytes came))
read_none bytes came start end room s e =
    let z : end + 0 ≡ end = omega arith in
    ([], ap (λ n. between start n (put_mid end room bytes came)) (sym z) ∙ read_on bytes came start end room 0 s e (omega arith))
