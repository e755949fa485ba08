-- From what a reading comes to, to what the entries answer. Assumes nothing.
use Rattle.std.proofs.Common.{◌≡◌, ℕ, ◌≤◌, Bool, true, false, ltb, List, [], length, Ok, Err, sym, refl, ap, ◌∙◌, subst, inl, inr, append-nil, arith}
use Rattle.std.proofs.lemmas.Bool.{lt-ltb}
use Rattle.papers.specs.declared.refusal.Refusal.{Refusal}
use Rattle.papers.specs.Paper.{Paper}
use Rattle.papers.specs.Reading.{Outcome, done, fault, into, read_row, deepest}
use Rattle.papers.specs.Refusals.{number_of, place_of}
use Rattle.papers.specs.Row.{row_of}
use Rattle.papers.specs.Telling.{Stands, Refuses, number_for}
use Rattle.papers.proofs.Answering.{row_stands, round_trip}
use Rattle.forms.specs.declared.room.Room.{Room}
use Rattle.forms.specs.Asked.{HasKind, one_asked, refuse_unless}
use Rattle.forms.specs.Fits.{form_fits, FirstFault, fault as form_fault}
use Rattle.forms.specs.Form.{Form}
use Rattle.forms.specs.Layout.{form_in}
use Rattle.taking.specs.declared.entry.Taking.{Taking}
use Rattle.taking.specs.declared.entry.Taking.TheVariants.{Taken, NotTaken, Refused}
use Rattle.taking.specs.Answers.{told_taking, RowTaken, Answered, row_answer, take_answer, WhyRefused, TakeTold}
use Rattle.taking.specs.Masks.{test, kinds_of}
use Rattle.taking.proofs.Folding.{none_there, test_kinds}

-- a whole row, the kinds that take it, and whether one of them is asked for
pub row_taken : (f : Form) (row : List ℕ) (k v : ℕ) (rest : List ℕ) (b : Bool) → into (kinds_of f) (read_row row) ≡ done v rest → b ≡ test v k → RowTaken f row k b
row_taken f row k v rest b e h =
    let p = row_stands (kinds_of f) row v rest e in
    (p.0, p.1, sym (test_kinds f p.0 k) ∙ ap (λ t. test t k) (sym p.2) ∙ sym h)

pub no_such_kind : (f : Form) (row : List ℕ) (k v : ℕ) (rest : List ℕ) → into (kinds_of f) (read_row row) ≡ done v rest → length f ≤ k → RowTaken f row k false
no_such_kind f row k v rest e h =
    let p = row_stands (kinds_of f) row v rest e in
    (p.0, p.1, none_there p.0 f k h)

-- a paper that stands there is read
read_again : (row : List ℕ) (d : Paper) → Stands deepest row d [] → read_row row ≡ done d []
read_again row d s = ap read_row (s.row ∙ append-nil (row_of d)) ∙ round_trip d s.good s.small s.flat

refused_as : (f : Form) (row : List ℕ) (k : ℕ) (e : Refusal) (o : Outcome Paper) → Refuses row o e → Err (number_of e, place_of e) ≡ row_answer f row k o
refused_as f row k e (done d rest) h = absurd h
refused_as f row k e (fault w left) h = ap (λ n. Err (n, place_of e)) h.0 ∙ ap (λ p. Err (number_for w, p)) h.1

answered_is : (f : Form) (row : List ℕ) (k : ℕ) (r : Taking) → Answered f row k r → told_taking r ≡ row_answer f row k (read_row row)
answered_is f row k Taken h = ap Ok (sym h.2) ∙ sym (ap (row_answer f row k) (read_again row h.0 h.1))
answered_is f row k NotTaken h = ap Ok (sym h.2) ∙ sym (ap (row_answer f row k) (read_again row h.0 h.1))
answered_is f row k (Refused e) h = refused_as f row k e (read_row row) h.told

-- the form is one, and has the kind
there : (room : Room) (form row : List ℕ) (k : ℕ) → HasKind room form k → take_answer room form row k ≡ row_answer (form_in room form) row k (read_row row)
there room form row k h =
    ap (λ b. refuse_unless b 1 (form_fault room form) (refuse_unless (ltb k (length (form_in room form))) 3 k (row_answer (form_in room form) row k (read_row row)))) h.0
    ∙ ap (λ b. refuse_unless b 3 k (row_answer (form_in room form) row k (read_row row))) (lt-ltb k (length (form_in room form)) h.1)

-- a row that is a paper has one answer
one_answer : (room : Room) (form row : List ℕ) (k : ℕ) (b : Bool) → HasKind room form k → RowTaken (form_in room form) row k b → take_answer room form row k ≡ Ok b
one_answer room form row k b h t =
    there room form row k h ∙ ap (row_answer (form_in room form) row k) (read_again row t.0 t.1) ∙ ap Ok t.2

told_true : (r : Taking) → told_taking r ≡ Ok true → r ≡ Taken
told_true Taken e = refl
told_true NotTaken e = cc
told_true (Refused x) e = cc

told_false : (r : Taking) → told_taking r ≡ Ok false → r ≡ NotTaken
told_false Taken e = cc
told_false NotTaken e = refl
told_false (Refused x) e = cc

-- the whole answer, where the form is one and has the kind
pub answered : (room : Room) (form row : List ℕ) (k kind : ℕ) (r : Taking) → kind ≡ k → HasKind room form kind → Answered (form_in room form) row kind r →
    TakeTold room form row k r
answered room form row k kind r same has h =
    let f = form_in room form in
    let here : HasKind room form k = subst (HasKind room form) same has in
    let a : Answered f row k r = subst (λ j. Answered f row j r) same h in
    let is = answered_is f row k r a ∙ sym (there room form row k here) in
    record {
      is = is;
      taken = (λ e. (here, subst (Answered f row k) e a), λ q. told_true r (is ∙ one_answer room form row k true q.0 q.1));
      not_taken = (λ e. (here, subst (Answered f row k) e a), λ q. told_false r (is ∙ one_answer room form row k false q.0 q.1));
      refused = λ e x. inr (here, subst (Answered f row k) x a);
    }

-- the kind asked, as `one_form` answers it
pub kind_asked : (room : Room) (form : List ℕ) (k kind : ℕ) → Ok kind ≡ one_asked room form k → kind ≡ k
kind_asked room form k kind = at (form_fits room form) (ltb k (length (form_in room form)))
  where
    at : (x y : Bool) → Ok kind ≡ refuse_unless x 1 (form_fault room form) (refuse_unless y 3 k (Ok k)) → kind ≡ k
    at true true e = cc
    at true false e = cc
    at false y e = cc

-- the form is none, or has no such kind: nothing else is looked at
refused_first : (room : Room) (form row : List ℕ) (k : ℕ) (e : ℕ × ℕ) → Err e ≡ one_asked room form k → Err e ≡ take_answer room form row k
refused_first room form row k e = at (form_fits room form) (ltb k (length (form_in room form)))
  where
    at : (x y : Bool) → Err e ≡ refuse_unless x 1 (form_fault room form) (refuse_unless y 3 k (Ok k)) →
        Err e ≡ refuse_unless x 1 (form_fault room form) (refuse_unless y 3 k (row_answer (form_in room form) row k (read_row row)))
    at true true h = let z : ◌≡◌ {A = ℕ} 0 1 = cc in absurd (omega arith)
    at true false h = let same : e ≡ (3, k) = cc in ap Err same
    at false y h = let same : e ≡ (1, form_fault room form) = cc in ap Err same

pub refused_asked : (room : Room) (form row : List ℕ) (k : ℕ) (e : Refusal) → Err (number_of e, place_of e) ≡ one_asked room form k →
    (number_of e ≡ 1 → FirstFault room form (place_of e)) → TakeTold room form row k (Refused e)
refused_asked room form row k e h first =
    let is = refused_first room form row k (number_of e, place_of e) h in
    record {
      is = is;
      taken = (λ x. let z : ◌≡◌ {A = ℕ} 0 1 = cc in absurd (omega arith), λ q. told_true (Refused e) (is ∙ one_answer room form row k true q.0 q.1));
      not_taken = (λ x. let z : ◌≡◌ {A = ℕ} 0 1 = cc in absurd (omega arith), λ q. told_false (Refused e) (is ∙ one_answer room form row k false q.0 q.1));
      refused = λ x q. let same : e ≡ x = cc in subst (WhyRefused room form row k) same (inl (sym h, first));
    }

-- a row that is taken is answered so
pub taken_if : (f : Form) (row : List ℕ) (k : ℕ) (r : Taking) → Answered f row k r → RowTaken f row k true → r ≡ Taken
taken_if f row k r a t =
    told_true r (answered_is f row k r a ∙ ap (row_answer f row k) (read_again row t.0 t.1) ∙ ap Ok t.2)
