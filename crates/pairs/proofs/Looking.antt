-- What a form takes is told by a look one level deep, where each part is replaced by its kinds; and a look with smaller sets has fewer kinds.
use Rattle.std.proofs.Common.{◌≡◌, ℕ, suc, ◌<◌, Bool, true, ◌&&◌, leb, List, [], ◌∷◌, length, sym, refl, ap, ◌∙◌, inl, inr}
use mathlib.Core.Path.{fun_ext}
use Rattle.std.proofs.lemmas.Bool.{and_parts, and_from, or_cases, or_left, or_right}
use Rattle.papers.specs.Paper.{Paper, num, items, fields, Papers, no_items, item, Fields, no_fields, field, count}
use Rattle.forms.specs.declared.way.Place.{Place}
use Rattle.forms.specs.Form.{Form, Way, number, list, record_of, ways_at, way_at}
use Rattle.taking.specs.Masks.{test, kinds_of}
use Rattle.taking.specs.Takes.{any, list_takes, record_takes, Found, at, nowhere, find, if_found, takes, all_take, fields_take}
use Rattle.taking.proofs.Below.{below_some, below_found, any_below}
use Rattle.taking.proofs.Folding.{any_none, test_kinds}
use Rattle.taking.proofs.Masks.{test_whole, mask_same}
use Rattle.pairs.specs.Looks.{Named, unnamed, named, Look, a_number, a_list, a_record, in_all, named_take, look_takes, kinds_by, sets_of, named_of, look_of, Inside}

-- A list has as many sets as papers.
pub sets_count : (g : Form) (ds : Papers) → length (sets_of g ds) ≡ count ds
unfolding sets_of count
sets_count g no_items = refl
sets_count g (item d ds) = ap suc (sets_count g ds)

-- All papers are taken as the kinds that are in all sets; the fields are taken by places as their sets are.
pub all_look : (g : Form) (ds : Papers) (k : ℕ) → all_take ds g k ≡ in_all (sets_of g ds) k
unfolding takes sets_of in_all
all_look g no_items k = refl
all_look g (item d ds) k =
    ap (λ b. b && all_take ds g k) (sym (test_kinds g d k)) ∙ ap (λ b. test (kinds_of g d) k && b) (all_look g ds k)

if_found_same : (t u : ℕ → List Place → Bool) → ((k : ℕ) (ps : List Place) → t k ps ≡ u k ps) → (found : Found) → if_found found t ≡ if_found found u
if_found_same t u h (at k ps) = h k ps
if_found_same t u h nowhere = refl

pub fields_look : (g : Form) (fs : Fields) (ps : List Place) → fields_take fs g ps ≡ named_take (named_of g fs) ps
unfolding takes named_of named_take
fields_look g no_fields ps = refl
fields_look g (field x d fs) ps =
    if_found_same (λ k qs. takes d g k && fields_take fs g qs) (λ k qs. test (kinds_of g d) k && named_take (named_of g fs) qs)
    (λ k qs. ap (λ b. b && fields_take fs g qs) (sym (test_kinds g d k)) ∙ ap (λ b. test (kinds_of g d) k && b) (fields_look g fs qs))
    (find x ps)

-- A form takes a paper as a kind if a way of the kind takes what looks so.
pub takes_look : (g : Form) (d : Paper) (k : ℕ) → takes d g k ≡ any (look_takes (look_of g d)) (ways_at g k)
unfolding takes look_of
takes_look g (num n) k = refl
takes_look g (items ds) k =
    ap (λ n. any (list_takes n (all_take ds g)) (ways_at g k)) (sym (sets_count g ds))
    ∙ ap (λ p. any (list_takes (length (sets_of g ds)) p) (ways_at g k)) (fun_ext (all_look g ds))
takes_look g (fields fs) k = ap (λ p. any (record_takes p) (ways_at g k)) (fun_ext (fields_look g fs))

-- THE KINDS BY PARTS.
pub kinds_by_parts : (g : Form) (d : Paper) → kinds_of g d ≡ kinds_by g (look_of g d)
unfolding kinds_of kinds_by
kinds_by_parts g d = mask_same (takes d g) (λ k. any (look_takes (look_of g d)) (ways_at g k)) (length g) (λ k l. takes_look g d k)

-- A form takes a paper as a kind by one of the kind's ways.
pub taken_by : (f : Form) (d : Paper) (a : ℕ) → takes d f a ≡ true →
    (w : ℕ) × (w < length (ways_at f a)) × (look_takes (look_of f d) (way_at f a w) ≡ true)
taken_by f d a h =
    below_some (λ w. look_takes (look_of f d) (way_at f a w)) (length (ways_at f a))
    (sym (any_below (look_takes (look_of f d)) (number 0 0) (ways_at f a)) ∙ sym (takes_look f d a) ∙ h)

pub taken_from : (f : Form) (d : Paper) (a w : ℕ) → w < length (ways_at f a) → look_takes (look_of f d) (way_at f a w) ≡ true → takes d f a ≡ true
taken_from f d a w l h =
    takes_look f d a ∙ any_below (look_takes (look_of f d)) (number 0 0) (ways_at f a)
    ∙ below_found (λ w. look_takes (look_of f d) (way_at f a w)) (length (ways_at f a)) w l h

-- Smaller sets: as many, each inside the other's; and the same names.
pub data SmallerSets : List ℕ → List ℕ → Type 0 where
  none : SmallerSets [] []
  more : {s t : ℕ} {ss ts : List ℕ} → Inside s t → SmallerSets ss ts → SmallerSets (s ∷ ss) (t ∷ ts)

pub data SmallerFields : Named → Named → Type 0 where
  none : SmallerFields unnamed unnamed
  more : {x s t : ℕ} {es fs : Named} → Inside s t → SmallerFields es fs → SmallerFields (named x s es) (named x t fs)

pub data Smaller : Look → Look → Type 0 where
  same_number : {n : ℕ} → Smaller (a_number n) (a_number n)
  smaller_list : {ss ts : List ℕ} → SmallerSets ss ts → Smaller (a_list ss) (a_list ts)
  smaller_record : {es fs : Named} → SmallerFields es fs → Smaller (a_record es) (a_record fs)

pub smaller_length : {ss ts : List ℕ} → SmallerSets ss ts → length ss ≡ length ts
smaller_length none = refl
smaller_length (more i h) = ap suc (smaller_length h)

smaller_in_all : {ss ts : List ℕ} → SmallerSets ss ts → (k : ℕ) → in_all ss k ≡ true → in_all ts k ≡ true
unfolding in_all
smaller_in_all none k e = e
smaller_in_all (more {s} {t} {ss} {ts} i h) k e =
    let p = and_parts (test s k) (in_all ss k) e in
    and_from (test t k) (in_all ts k) (i k p.0) (smaller_in_all h k p.1)

if_found_more : (t u : ℕ → List Place → Bool) → ((k : ℕ) (ps : List Place) → t k ps ≡ true → u k ps ≡ true) →
    (found : Found) → if_found found t ≡ true → if_found found u ≡ true
if_found_more t u h (at k ps) e = h k ps e
if_found_more t u h nowhere e = e

smaller_named_take : {es fs : Named} → SmallerFields es fs → (ps : List Place) → named_take es ps ≡ true → named_take fs ps ≡ true
unfolding named_take
smaller_named_take none ps e = e
smaller_named_take (more {x} {s} {t} {es} {fs} i h) ps e =
    if_found_more (λ k qs. test s k && named_take es qs) (λ k qs. test t k && named_take fs qs)
    (λ k qs e. let p = and_parts (test s k) (named_take es qs) e in and_from (test t k) (named_take fs qs) (i k p.0) (smaller_named_take h qs p.1))
    (find x ps) e

-- What a way takes for a look with smaller sets it takes for the other.
smaller_takes : {l m : Look} → Smaller l m → (w : Way) → look_takes l w ≡ true → look_takes m w ≡ true
smaller_takes same_number w e = e
smaller_takes (smaller_list h) (number a b) e = e
smaller_takes (smaller_list {ss} {ts} h) (list k a b) e =
    let p = and_parts (leb a (length ss) && leb (length ss) b) (in_all ss k) e in
    and_from (leb a (length ts) && leb (length ts) b) (in_all ts k)
    (ap (λ n. leb a n && leb n b) (sym (smaller_length h)) ∙ p.0) (smaller_in_all h k p.1)
smaller_takes (smaller_list h) (record_of ps) e = e
smaller_takes (smaller_record h) (number a b) e = e
smaller_takes (smaller_record h) (list k a b) e = e
smaller_takes (smaller_record h) (record_of ps) e = smaller_named_take h ps e

any_more : (p q : Way → Bool) → ((w : Way) → p w ≡ true → q w ≡ true) → (ws : List Way) → any p ws ≡ true → any q ws ≡ true
unfolding any
any_more p q h [] e = e
any_more p q h (w ∷ ws) e =
    elim (or_cases (p w) (any p ws) e) [ inl i ↦ or_left (q w) (any q ws) (h w i) | inr i ↦ or_right (q w) (any q ws) (any_more p q h ws i) ]

-- Of every number the set says whether it is a kind that takes what looks so.
pub test_kinds_by : (g : Form) (l : Look) (k : ℕ) → test (kinds_by g l) k ≡ any (look_takes l) (ways_at g k)
unfolding kinds_by
test_kinds_by g l = test_whole (λ k. any (look_takes l) (ways_at g k)) (length g) (any_none (look_takes l) g)

-- SMALLER SETS GIVE SMALLER SETS.
pub kinds_by_smaller : (g : Form) {l m : Look} → Smaller l m → Inside (kinds_by g l) (kinds_by g m)
kinds_by_smaller g {l} {m} h k e =
    test_kinds_by g m k ∙ any_more (look_takes l) (look_takes m) (smaller_takes h) (ways_at g k) (sym (test_kinds_by g l k) ∙ e)
