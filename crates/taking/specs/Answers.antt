-- What is answered to the question whether a form takes a paper. Assumes nothing: these are definitions.
use Rattle.std.specs.Prelude.{◌≡◌, ℕ, ◌-◌, Bool, true, false, ◌⊎◌, List, [], length, Option, Some, None, Ok, Err, Result, codes, nat_lt}
use Rattle.papers.specs.declared.refusal.Refusal.{Refusal}
use Rattle.papers.specs.Paper.{Paper}
use Rattle.papers.specs.Reading.{Outcome, done, fault, read_row, deepest}
use Rattle.papers.specs.Refusals.{number_of, place_of}
use Rattle.papers.specs.Telling.{Stands, TurnedAway, number_for}
use Rattle.forms.specs.declared.room.Room.{Room}
use Rattle.forms.specs.Asked.{HasKind, one_asked, refuse_unless}
use Rattle.forms.specs.Fits.{form_fits, FirstFault, fault as form_fault}
use Rattle.forms.specs.Form.{Form}
use Rattle.forms.specs.Layout.{form_in}
use Rattle.taking.specs.declared.entry.Taking.{Taking}
use Rattle.taking.specs.declared.entry.Taking.TheVariants.{Taken, NotTaken, Refused}
use Rattle.taking.specs.Takes.{takes}

-- Each answer as a value: whether the paper is taken, or the number and the place of the refusal.
abbrev pub told_taking : Taking → Result Bool (ℕ × ℕ)
told_taking Taken = Ok true
told_taking NotTaken = Ok false
told_taking (Refused e) = Err (number_of e, place_of e)

-- What is printed of it, but for a refusal, which prints itself.
abbrev pub taking_text : Taking → Option (List ℕ)
taking_text Taken = Some (codes "taken")
taking_text NotTaken = Some (codes "not taken")
taking_text (Refused e) = None

-- The row is the encoding of a well made paper that fits and is at most 256 deep, and whether f takes it as k is b.
abbrev pub RowTaken : Form → List ℕ → ℕ → Bool → Type 0
RowTaken f row k b = (d : Paper) × Stands deepest row d [] × (takes d f k ≡ b)

-- What a form answers to a row: whether it takes the paper that the row is, or why the row is none.
abbrev pub Answered : Form → List ℕ → ℕ → Taking → Type 0
Answered f row k Taken = RowTaken f row k true
Answered f row k NotTaken = RowTaken f row k false
Answered f row k (Refused e) = TurnedAway row e

-- The answer as a function of the lent rows and the kind asked: 1 if the one is no form, 3 if it has no such kind, 5 or 6 if the other is
-- no paper, by what the reading of it meets first.
abbrev pub row_answer : Form → List ℕ → ℕ → Outcome Paper → Result Bool (ℕ × ℕ)
row_answer f row k (done d rest) = Ok (takes d f k)
row_answer f row k (fault w left) = Err (number_for w, length row - length left)

abbrev pub take_answer : Room → List ℕ → List ℕ → ℕ → Result Bool (ℕ × ℕ)
take_answer room form row k =
    refuse_unless (form_fits room form) 1 (form_fault room form)
    (refuse_unless (nat_lt k (length (form_in room form))) 3 k
    (row_answer (form_in room form) row k (read_row row)))

-- Why there is no answer: the form is none or has no such kind, and then all of its kinds before the place told are in order; or the row is no
-- paper.
abbrev pub WhyRefused : Room → List ℕ → List ℕ → ℕ → Refusal → Type 0
WhyRefused room form row k e =
    ((one_asked room form k ≡ Err (number_of e, place_of e)) × (number_of e ≡ 1 → FirstFault room form (place_of e)))
    ⊎ (HasKind room form k × TurnedAway row e)

-- One thing exactly if another.
abbrev pub Exactly : Type 0 → Type 0 → Type 0
Exactly P Q = (P → Q) × (Q → P)

-- The whole answer to lent rows.
pub record TakeTold (room : Room) (form row : List ℕ) (k : ℕ) (r : Taking) : Type 0 where
  pub is : told_taking r ≡ take_answer room form row k
  pub taken : Exactly (r ≡ Taken) (HasKind room form k × RowTaken (form_in room form) row k true)
  pub not_taken : Exactly (r ≡ NotTaken) (HasKind room form k × RowTaken (form_in room form) row k false)
  pub refused : (e : Refusal) → r ≡ Refused e → WhyRefused room form row k e
