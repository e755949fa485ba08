-- What is answered where one form is asked about a kind, or two forms about one kind each: the kinds, or the first thing that
-- is wrong, in the order of the refusals' numbers. Assumes nothing.
use Rattle.std.specs.Prelude.{◌≡◌, ℕ, ◌<◌, Bool, true, cond, List, length, Ok, Err, Result, nat_lt}
use Rattle.papers.specs.declared.refusal.Refusal.{Refusal}
use Rattle.forms.specs.declared.room.Room.{Room}
use Rattle.forms.specs.declared.room.Room.TheVariants.{Plain}
use Rattle.forms.specs.declared.view.Asked.{Asked}
use Rattle.forms.specs.Fits.{form_fits, fault}
use Rattle.forms.specs.Layout.{form_in}

-- The row is a form, and has the kind.
abbrev pub HasKind : Room → List ℕ → ℕ → Type 0
HasKind room row k = (form_fits room row ≡ true) × (k < length (form_in room row))

-- What follows if a test holds, and else the number and the place of a refusal.
abbrev pub refuse_unless : {X : Type 0} → Bool → ℕ → ℕ → Result X (ℕ × ℕ) → Result X (ℕ × ℕ)
refuse_unless holds refusal place next = cond holds next (Err (refusal, place))

-- One form in a row, and a kind of it: 1 if the row is no form, 3 if the kind is not there.
abbrev pub one_asked : Room → List ℕ → ℕ → Result ℕ (ℕ × ℕ)
one_asked room row k =
    refuse_unless (form_fits room row) 1 (fault room row)
    (refuse_unless (nat_lt k (length (form_in room row))) 3 k
    (Ok k))

-- Two plain forms, and a kind of each: 1 and 2 if the first and the second is none, 3 if a kind is not there.
abbrev pub two_asked : List ℕ → List ℕ → ℕ → ℕ → Result (ℕ × ℕ) (ℕ × ℕ)
two_asked one two k j =
    refuse_unless (form_fits Plain one) 1 (fault Plain one)
    (refuse_unless (form_fits Plain two) 2 (fault Plain two)
    (refuse_unless (nat_lt k (length (form_in Plain one))) 3 k
    (refuse_unless (nat_lt j (length (form_in Plain two))) 3 j
    (Ok (k, j)))))

-- The answer for one form and for two, with the kinds alone.
abbrev pub one_kind : Result Asked Refusal → Result ℕ Refusal
one_kind (Ok asked) = Ok asked.kind
one_kind (Err e) = Err e

abbrev pub two_kinds : Result (Asked × Asked) Refusal → Result (ℕ × ℕ) Refusal
two_kinds (Ok asked) = Ok (asked.0.kind, asked.1.kind)
two_kinds (Err e) = Err e
