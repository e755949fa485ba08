-- Reading step by step: what the next numbers of a row make of a reading. Assumes nothing.
use Rattle.std.proofs.Common.{◌≡◌, ℕ, zero, suc, ◌-◌, ◌<◌, ◌≤◌, ◌&&◌, ltb, leb, ◌⊎◌, List, [], ◌∷◌, length, get_or, take, drop, IsErrAnd, Err, Result, sym, refl, ap, ◌∙◌, subst, inl, inr, arith}
use Rattle.std.proofs.lemmas.List.{take_rest, length-append}
use Rattle.std.proofs.lemmas.Bool.{lt-leb, le-ltb, and_left, and_right, cond-false}
use Rattle.std.proofs.lemmas.Result.{err_from_is_err_and}
use Rattle.papers.specs.declared.reading.Fault.{Fault}
use Rattle.papers.specs.declared.reading.Part.{Part}
use Rattle.papers.specs.declared.shape.Shape.{Shape}
use Rattle.papers.specs.declared.shape.Shape.TheVariants.{Number, List as ListShape, Record}
use Rattle.papers.specs.declared.reading.Why.{Why}
use Rattle.papers.specs.declared.reading.Why.TheVariants.{NoPaper, Deeper}
use Rattle.papers.specs.Telling.{shape_number, Told}
use Rattle.papers.specs.Row.{limit}
use Rattle.papers.specs.Reading.{Outcome, done, fault, into, number_from, read_list, read_record, read_paper}
use Rattle.papers.specs.Paper.{Paper, num, items, fields}
use Rattle.papers.proofs.Outcomes.{into_done, number_reads, number_read}
use Rattle.papers.proofs.Causal.{paper_causal}

-- the rest of a row behind its first number, as the code reads it
abbrev pub rest_of : List ℕ → List ℕ
rest_of xs = take (length xs - 1) (drop 1 xs)

-- one number
pub number_ends : (low : ℕ) (xs : List ℕ) → length xs < 1 → number_from low xs ≡ fault NoPaper xs
unfolding number_from
number_ends low [] h = refl
number_ends low (x ∷ xs) h = absurd (omega arith)

pub number_wrong : (low : ℕ) (xs : List ℕ) → 0 < length xs → (get_or xs 0 0 < low) ⊎ (limit ≤ get_or xs 0 0) → number_from low xs ≡ fault NoPaper xs
unfolding number_from
number_wrong low [] h k = absurd (omega arith)
number_wrong low (x ∷ xs) h (inl k) = cond-false (leb low x && ltb x limit) (done x xs) (fault NoPaper (x ∷ xs)) (and_left (leb low x) (ltb x limit) (lt-leb low x k))
number_wrong low (x ∷ xs) h (inr k) = cond-false (leb low x && ltb x limit) (done x xs) (fault NoPaper (x ∷ xs)) (and_right (leb low x) (ltb x limit) (le-ltb x limit k))

pub number_right : (low v : ℕ) (xs : List ℕ) → 0 < length xs → v ≡ get_or xs 0 0 → low ≤ v → v < limit → number_from low xs ≡ done v (rest_of xs)
number_right low v [] h z k l = absurd (omega arith)
number_right low v (x ∷ xs) h z k l =
    subst (λ y. number_from low (y ∷ xs) ≡ done v (rest_of (y ∷ xs))) z (number_reads low v xs k l ∙ ap (done v) (sym (take_rest (v ∷ xs) 1)))

pub name_below : (low : ℕ) (xs : List ℕ) {v : ℕ} {rest : List ℕ} → number_from low xs ≡ done v rest → v < limit
name_below low xs {v} {rest} e = (number_read low xs v rest e).2

-- the rest of a reading is shorter than the row, or no longer
pub number_shortens : (low : ℕ) (xs : List ℕ) {v : ℕ} {rest : List ℕ} → number_from low xs ≡ done v rest → suc (length rest) ≡ length xs
number_shortens low xs {v} {rest} e = sym (ap length (number_read low xs v rest e).0)

pub paper_shortens : {X : Type 0} (val : Paper → X) (n : ℕ) (xs : List ℕ) (v : X) (rest : List ℕ) → into val (read_paper n xs) ≡ done v rest → length rest ≤ length xs
paper_shortens val n xs v rest e =
    let p = into_done val (read_paper n xs) v rest e in
    let c = paper_causal n xs (done p.0 rest) p.1 in
    omega (arith, ap length c.split ∙ length-append c.front rest)

-- the start of a paper
pub paper_ends : (n : ℕ) (xs : List ℕ) → length xs < 1 → read_paper n xs ≡ fault NoPaper xs
unfolding read_paper
paper_ends zero [] h = refl
paper_ends (suc n) [] h = refl
paper_ends n (x ∷ xs) h = absurd (omega arith)

pub paper_unknown : (n : ℕ) (xs : List ℕ) → 0 < length xs → 2 < get_or xs 0 0 → read_paper n xs ≡ fault NoPaper xs
unfolding read_paper
paper_unknown n [] h k = absurd (omega arith)
paper_unknown n (zero ∷ xs) h k = absurd (omega arith)
paper_unknown n (suc zero ∷ xs) h k = absurd (omega arith)
paper_unknown n (suc (suc zero) ∷ xs) h k = absurd (omega arith)
paper_unknown zero (suc (suc (suc s)) ∷ xs) h k = refl
paper_unknown (suc n) (suc (suc (suc s)) ∷ xs) h k = refl

pub paper_too_deep : (n : ℕ) (xs : List ℕ) → n ≡ 0 → 0 < length xs → get_or xs 0 0 ≤ 2 → read_paper n xs ≡ fault Deeper xs
unfolding read_paper
paper_too_deep zero [] z h k = absurd (omega arith)
paper_too_deep zero (zero ∷ xs) z h k = refl
paper_too_deep zero (suc zero ∷ xs) z h k = refl
paper_too_deep zero (suc (suc zero) ∷ xs) z h k = refl
paper_too_deep zero (suc (suc (suc s)) ∷ xs) z h k = absurd (omega arith)
paper_too_deep (suc n) xs z h k = absurd (omega arith)

-- a shape has a number that is at most 2
pub known_shape : (n : ℕ) (shape : Shape) → shape_number shape ≡ n → n ≤ 2
known_shape n Number e = omega arith
known_shape n ListShape e = omega arith
known_shape n Record e = omega arith

-- a row that begins with a number
pub begins_with : (x : ℕ) (xs : List ℕ) → 0 < length xs → x ≡ get_or xs 0 0 → xs ≡ x ∷ rest_of xs
begins_with x [] h e = absurd (omega arith)
begins_with x (y ∷ ys) h e = ap (λ z. z ∷ ys) (sym e) ∙ ap (λ zs. x ∷ zs) (sym (take_rest (y ∷ ys) 1))

-- a paper that begins with a shape is what is made of what follows
opens : {A X : Type 0} (of : Paper → X) (make : A → Paper) (o : Outcome A) → into of (into make o) ≡ into (λ a. of (make a)) o
opens of make (done a rest) = refl
opens of make (fault w left) = refl

begins : {n m : ℕ} {xs rest : List ℕ} {s : Shape} → (n ≡ suc m) × (xs ≡ shape_number s ∷ rest) → (t : Shape) → s ≡ t →
    read_paper n xs ≡ read_paper (suc m) (shape_number t ∷ rest)
begins {n} {m} {xs} {rest} o t is = ap (λ k. read_paper k xs) o.0 ∙ ap (read_paper (suc m)) (o.1 ∙ ap (λ u. shape_number u ∷ rest) is)

module _ {X : Type 0} (of : Paper → X) {n m : ℕ} {xs rest : List ℕ} {s : Shape} (o : (n ≡ suc m) × (xs ≡ shape_number s ∷ rest)) where
  pub opens_number : s ≡ Number → into of (read_paper n xs) ≡ into (λ v. of (num v)) (number_from 0 rest)
  unfolding read_paper
  opens_number is = ap (into of) (begins o Number is) ∙ opens of num (number_from 0 rest)

  pub opens_list : s ≡ ListShape → into of (read_paper n xs) ≡ into (λ ds. of (items ds)) (read_list (read_paper m) rest)
  unfolding read_paper
  opens_list is = ap (into of) (begins o ListShape is) ∙ opens of items (read_list (read_paper m) rest)

  pub opens_record : s ≡ Record → into of (read_paper n xs) ≡ into (λ fs. of (fields fs)) (read_record (read_paper m) rest)
  unfolding read_paper
  opens_record is = ap (into of) (begins o Record is) ∙ opens of fields (read_record (read_paper m) rest)

-- a reading that fails at the front of what is left
pub fails_at : {A : Type 0} {o : Outcome A} {w : Why} (left : List ℕ) (f : Fault) → f ≡ record { why = w; left = length left } → o ≡ fault w left → Told o (Err f)
fails_at {o} {w} left f is e = subst (λ g. Told o (Err g)) (sym is) (left, e, refl)

-- a fault of a part is one of the whole, and is handed on as it is
pub hands_on : {A X : Type 0} {part : Outcome A} {whole : Outcome X} (r : Result (Part X) Fault) {f : Fault} → IsErrAnd r (λ y. y ≡ f) → Told part (Err f) →
    ((w : Why) (left : List ℕ) → part ≡ fault w left → whole ≡ fault w left) → Told whole r
hands_on {part} {whole} r {f} e h go =
    let p = err_from_is_err_and r e in
    subst (Told whole) (sym (p.1 ∙ ap Err p.2)) (h.0, go f.why h.0 h.1, h.2)
