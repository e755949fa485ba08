-- Reading a paper from the front of a row of numbers: the paper and the rest of the row, or the first fault. Assumes nothing: these are
-- definitions. What they mean is said by the laws in Laws.antt.
use Rattle.std.specs.Prelude.{ℕ, zero, suc, cond, ◌&&◌, List, [], ◌∷◌, nat_le, nat_lt}
use Rattle.papers.specs.declared.reading.Why.{Why}
use Rattle.papers.specs.declared.reading.Why.TheVariants.{NoPaper, Deeper}
use Rattle.papers.specs.Paper.{Paper, num, items, fields, Papers, no_items, item, Fields, no_fields, field}
use Rattle.papers.specs.Row.{limit}

-- what a reading comes to
pub data Outcome (A : Type 0) : Type 0 where
  done : A → List ℕ → Outcome A  -- what was read, and the rest of the row
  fault : Why → List ℕ → Outcome A  -- why not, and the row from the number at fault on, which is empty if the row ended too soon

-- go on with what was read, unless there was a fault
abbrev pub then : {A B : Type 0} → Outcome A → (A → List ℕ → Outcome B) → Outcome B
then (done a rest) go = go a rest
then (fault w left) go = fault w left

-- put what was read into something larger
abbrev pub into : {A B : Type 0} → (A → B) → Outcome A → Outcome B
into f (done a rest) = done (f a) rest
into f (fault w left) = fault w left

-- the next number, at least `low` and below the limit
unfoldable pub number_from : ℕ → List ℕ → Outcome ℕ
number_from low [] = fault NoPaper []
number_from low (x ∷ xs) = cond (nat_le low x && nat_lt x limit) (done x xs) (fault NoPaper (x ∷ xs))

-- so many papers, one after the other, each read by `rd`
unfoldable pub read_items : (List ℕ → Outcome Paper) → ℕ → List ℕ → Outcome Papers
read_items rd zero xs = done no_items xs
read_items rd (suc n) xs = then (rd xs) (λ d rest. into (item d) (read_items rd n rest))

-- so many fields, by rising name, the first name at least `low`
unfoldable pub read_fields : (List ℕ → Outcome Paper) → ℕ → ℕ → List ℕ → Outcome Fields
read_fields rd zero low xs = done no_fields xs
read_fields rd (suc n) low xs =
    then (number_from low xs) (λ x after. then (rd after) (λ d rest. into (field x d) (read_fields rd n (suc x) rest)))

-- a list's or record's papers after the start, each read by `rd`: how many, and they
unfoldable pub read_list : (List ℕ → Outcome Paper) → List ℕ → Outcome Papers
read_list rd xs = then (number_from 0 xs) (read_items rd)

unfoldable pub read_record : (List ℕ → Outcome Paper) → List ℕ → Outcome Fields
read_record rd xs = then (number_from 0 xs) (λ n rest. read_fields rd n 0 rest)

-- a paper at most so deep
unfoldable pub read_paper : ℕ → List ℕ → Outcome Paper
read_paper zero [] = fault NoPaper []
read_paper zero (zero ∷ xs) = fault Deeper (0 ∷ xs)
read_paper zero (suc zero ∷ xs) = fault Deeper (1 ∷ xs)
read_paper zero (suc (suc zero) ∷ xs) = fault Deeper (2 ∷ xs)
read_paper zero (suc (suc (suc s)) ∷ xs) = fault NoPaper (suc (suc (suc s)) ∷ xs)
read_paper (suc n) [] = fault NoPaper []
read_paper (suc n) (zero ∷ xs) = into num (number_from 0 xs)
read_paper (suc n) (suc zero ∷ xs) = into items (read_list (read_paper n) xs)
read_paper (suc n) (suc (suc zero) ∷ xs) = into fields (read_record (read_paper n) xs)
read_paper (suc n) (suc (suc (suc s)) ∷ xs) = fault NoPaper (suc (suc (suc s)) ∷ xs)

-- nothing may stand behind the paper
abbrev pub alone : {A : Type 0} → Outcome A → Outcome A
alone (done a []) = done a []
alone (done a (x ∷ rest)) = fault NoPaper (x ∷ rest)
alone (fault w left) = fault w left

-- how deep a paper may be
abbrev pub deepest : ℕ
deepest = 256

-- the paper that a whole row is
unfoldable pub read_row : List ℕ → Outcome Paper
read_row xs = alone (read_paper deepest xs)
