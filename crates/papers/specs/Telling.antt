-- What the readers answer. Assumes nothing: these are definitions.
use Rattle.std.specs.Prelude.{◌≡◌, ℕ, suc, ◌+◌, ◌-◌, ◌<◌, ◌≤◌, true, List, [], ◌∷◌, ◌++◌, length, take, Ok, Err, Result}
use Rattle.papers.specs.declared.reading.Fault.{Fault}
use Rattle.papers.specs.declared.reading.Opening.{Opening}
use Rattle.papers.specs.declared.reading.Part.{Part}
use Rattle.papers.specs.declared.shape.Shape.{Shape}
use Rattle.papers.specs.declared.shape.Shape.TheVariants.{Number, List as ListShape, Record}
use Rattle.papers.specs.declared.reading.Why.{Why}
use Rattle.papers.specs.declared.reading.Why.TheVariants.{NoPaper, Deeper}
use Rattle.papers.specs.declared.refusal.Refusal.{Refusal}
use Rattle.papers.specs.Paper.{Paper, well, deep}
use Rattle.papers.specs.Row.{row_of, fits}
use Rattle.papers.specs.Reading.{Outcome, done, fault, read_paper, read_row, deepest}
use Rattle.papers.specs.Refusals.{number_of, place_of}

-- the number that a paper of this shape begins with
abbrev pub shape_number : Shape → ℕ
shape_number Number = 0
shape_number ListShape = 1
shape_number Record = 2

-- an answer that says what a reading came to: what was read and the rest, or why not and how much was left there
abbrev pub Told : {X : Type 0} → Outcome X → Result (Part X) Fault → Type 0
Told o (Ok part) = o ≡ done part.value part.rest.now
Told o (Err f) = (left : List ℕ) × (o ≡ fault f.why left) × (f.left ≡ length left)

-- the shape with which a paper at most n deep begins, or that its reading fails at the start
abbrev pub Opened : ℕ → List ℕ → Result Opening Fault → Type 0
Opened n xs (Ok o) = (n ≡ suc o.below) × (xs ≡ shape_number o.shape ∷ o.rest.now)
Opened n xs (Err f) = (left : List ℕ) × (read_paper n xs ≡ fault f.why left) × (f.left ≡ length left)

-- a well made paper that fits, at most n deep, stands at the front of a row, and the rest behind it
pub record Stands (n : ℕ) (xs : List ℕ) (d : Paper) (rest : List ℕ) : Type 0 where
  pub row : xs ≡ row_of d ++ rest
  pub good : well d ≡ true
  pub small : fits d ≡ true
  pub flat : deep d ≤ n

-- a reading of the front of a row failed: where it did, and if a paper stands at the front after all, then it is too deep
pub record Fails (n : ℕ) (xs : List ℕ) (f : Fault) : Type 0 where
  pub left : List ℕ
  pub comes : read_paper n xs ≡ fault f.why left
  pub left_is : f.left ≡ length left
  pub only_deeper : (d : Paper) (rest : List ℕ) → well d ≡ true → fits d ≡ true → xs ≡ row_of d ++ rest → (f.why ≡ Deeper) × (n < deep d)

-- the answer to the reading of a paper at the front of a row
abbrev pub FrontTold : ℕ → List ℕ → Result (Part ℕ) Fault → Type 0
FrontTold n xs (Ok part) = (d : Paper) × Stands n xs d part.rest.now × (part.value ≡ deep d)
FrontTold n xs (Err f) = Fails n xs f

-- the number of the refusal
abbrev pub number_for : Why → ℕ
number_for NoPaper = 5
number_for Deeper = 6

-- a refusal that tells why a row is no paper, and the place in the row
abbrev pub Refuses : List ℕ → Outcome Paper → Refusal → Type 0
Refuses xs (done d rest) e = ⊥
Refuses xs (fault w left) e = (number_of e ≡ number_for w) × (place_of e ≡ length xs - length left)

-- a row is turned away: by the reading; if it is a written paper after all, then that is too deep; and every row with the same numbers up
-- to the place told is turned away alike
pub record TurnedAway (xs : List ℕ) (e : Refusal) : Type 0 where
  pub told : Refuses xs (read_row xs) e
  pub only_deeper : (d : Paper) → well d ≡ true → fits d ≡ true → xs ≡ row_of d → (number_of e ≡ 6) × (deepest < deep d)
  pub no_further : (ys : List ℕ) → take (place_of e + 1) ys ≡ take (place_of e + 1) xs → Refuses ys (read_row ys) e

-- the answer to the reading of a whole row: how deep the paper is, or the refusal
abbrev pub RowTold : List ℕ → Result ℕ Refusal → Type 0
RowTold xs (Ok depth) = (d : Paper) × Stands deepest xs d [] × (depth ≡ deep d)
RowTold xs (Err e) = TurnedAway xs e
