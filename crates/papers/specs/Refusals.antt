-- The number and the place of each refusal. Assumes nothing.
use Rattle.std.specs.Prelude.{ℕ, Ok, Err, Result}
use Rattle.papers.specs.declared.refusal.Refusal.{Refusal}
use Rattle.papers.specs.declared.refusal.Refusal.TheVariants.{FirstForm, SecondForm, NoKind, NoRoom, NotPaper, TooDeep, BadNode}

abbrev pub number_of : Refusal → ℕ
number_of (FirstForm p) = 1
number_of (SecondForm p) = 2
number_of (NoKind p) = 3
number_of (NoRoom p) = 4
number_of (NotPaper p) = 5
number_of (TooDeep p) = 6
number_of (BadNode p) = 7

abbrev pub place_of : Refusal → ℕ
place_of (FirstForm p) = p
place_of (SecondForm p) = p
place_of (NoKind p) = p
place_of (NoRoom p) = p
place_of (NotPaper p) = p
place_of (TooDeep p) = p
place_of (BadNode p) = p

-- an answer, or the number and the place of its refusal
abbrev pub told : {X : Type 0} → Result X Refusal → Result X (ℕ × ℕ)
told (Ok x) = Ok x
told (Err e) = Err (number_of e, place_of e)
