-- Papers made of flatter ones by a way of a form: what a way takes is made so, and what is made so is taken.
use Rattle.std.proofs.Common.{◌≡◌, ℕ, zero, suc, ◌<◌, ◌≤◌, true, false, not, ◌&&◌, ltb, leb, ◌⊎◌, List, [], ◌∷◌, length, get_or, sym, refl, ◌∙◌, subst, inl, inr, arith}
use Rattle.std.proofs.lemmas.Bool.{and_parts, and_from, leb-true, le-leb, ltb-true, lt-ltb, not-true, not_from_false, false≢true, cases_eq, cases_Bool}
use Rattle.papers.specs.Paper.{Paper, num, items, fields, Papers, no_items, item, Fields, no_fields, field, count, after_all, well, all_well, fields_well, deep, all_deep, fields_deep}
use Rattle.forms.specs.declared.way.Place.{Place}
use Rattle.forms.specs.Form.{Form, Way, number, list, record_of, ways_at, way_at, places_of, rising, proper_ways, proper}
use Rattle.taking.specs.Takes.{none_must, find, takes, all_take, fields_take}
use Rattle.taking.proofs.Finding.{find_here, find_stops, find_past}
use Rattle.pairs.specs.Looks.{a_number, a_list, a_record, in_all, look_takes, kinds_by, sets_of, named_of, look_of}
use Rattle.pairs.specs.Rounds.{HasPaper}
use Rattle.pairs.proofs.Looking.{sets_count, all_look, fields_look, kinds_by_parts, taken_by, taken_from}

-- A well made paper, at most r deep, that f takes as k.
pub record Taken (f : Form) (r k : ℕ) (d : Paper) : Type 0 where
  pub well_made : well d ≡ true
  pub taken : takes d f k ≡ true
  pub flat : deep d ≤ r

-- All papers of a list are such.
pub data PapersTaken (f : Form) (r k : ℕ) : Papers → Type 0 where
  none : PapersTaken f r k no_items
  more : {d : Paper} {ds : Papers} → Taken f r k d → PapersTaken f r k ds → PapersTaken f r k (item d ds)

-- Each place is left out, if it need not be filled, or filled with such a paper of its kind.
pub data PlacesFilled (f : Form) (r : ℕ) : List Place → Fields → Type 0 where
  none : PlacesFilled f r [] no_fields
  left_out : {p : Place} {ps : List Place} {fs : Fields} → p.must ≡ false → PlacesFilled f r ps fs → PlacesFilled f r (p ∷ ps) fs
  filled : {p : Place} {ps : List Place} {d : Paper} {fs : Fields} →
      Taken f r p.kind d → PlacesFilled f r ps fs → PlacesFilled f r (p ∷ ps) (field p.name d fs)

-- A paper that a way takes, whose parts are such papers.
pub data Makes (f : Form) (r : ℕ) : Way → Paper → Type 0 where
  number_made : {a b n : ℕ} → a ≤ n → n ≤ b → Makes f r (number a b) (num n)
  list_made : {k a b : ℕ} {ds : Papers} → a ≤ count ds → count ds ≤ b → PapersTaken f r k ds → Makes f r (list k a b) (items ds)
  record_made : {ps : List Place} {fs : Fields} → PlacesFilled f r ps fs → Makes f r (record_of ps) (fields fs)

-- What a way takes is made so.
module _ (f : Form) (r : ℕ) where
  papers_from : (k : ℕ) (ds : Papers) → all_well ds ≡ true → all_deep ds ≤ r → all_take ds f k ≡ true → PapersTaken f r k ds
  unfolding well deep takes
  papers_from k no_items e l h = none
  papers_from k (item d ds) e l h =
      let v = and_parts (well d) (all_well ds) e in
      let s = and_parts (takes d f k) (all_take ds f k) h in
      more (record { well_made = v.0; taken = s.0; flat = omega arith }) (papers_from k ds v.1 (omega arith) s.1)

  places_from : (ps : List Place) (fs : Fields) → fields_well fs ≡ true → fields_deep fs ≤ r → fields_take fs f ps ≡ true → PlacesFilled f r ps fs
  unfolding well deep takes none_must find
  places_from [] no_fields e l h = none
  places_from [] (field x d fs) e l h = absurd (false≢true h)
  places_from (p ∷ ps) no_fields e l h =
      let s = and_parts (not p.must) (none_must ps) h in
      left_out (not-true p.must s.0) (places_from ps no_fields e l s.1)
  places_from (p ∷ ps) (field x d fs) e l h = go (cases_eq p.name x) (cases_Bool p.must) (places_from ps fs) (places_from ps (field x d fs) e l)
    where
      v : (after_all x fs ≡ true) × ((well d && fields_well fs) ≡ true)
      v = and_parts (after_all x fs) (well d && fields_well fs) e

      go : (p.name ≡ x) ⊎ (p.name ≡ x → ⊥) → (p.must ≡ true) ⊎ (p.must ≡ false) →
          (fields_well fs ≡ true → fields_deep fs ≤ r → fields_take fs f ps ≡ true → PlacesFilled f r ps fs) →
          (fields_take (field x d fs) f ps ≡ true → PlacesFilled f r ps (field x d fs)) → PlacesFilled f r (p ∷ ps) (field x d fs)
      go (inl i) _ after same =
          let u = and_parts (well d) (fields_well fs) v.1 in
          let s = and_parts (takes d f p.kind) (fields_take fs f ps) (rw (find_here x p ps i) at h) in
          subst (λ y. PlacesFilled f r (p ∷ ps) (field y d fs)) i
          (filled (record { well_made = u.0; taken = s.0; flat = omega arith }) (after u.1 (omega arith) s.1))
      go (inr other) (inl m) after same = absurd (false≢true (rw (find_stops x p ps other m) at h))
      go (inr other) (inr m) after same = left_out m (same (rw (find_past x p ps other m) at h))

  within : (a b n : ℕ) → (leb a n && leb n b) ≡ true → (a ≤ n) × (n ≤ b)
  within a b n h = let s = and_parts (leb a n) (leb n b) h in (leb-true a n s.0, leb-true n b s.1)

  pub makes_from : (d : Paper) (w : Way) → well d ≡ true → deep d ≤ suc r → look_takes (look_of f d) w ≡ true → Makes f r w d
  unfolding well deep look_of
  makes_from (num n) (number a b) e l h = let s = within a b n h in number_made s.0 s.1
  makes_from (num n) (list k a b) e l h = absurd (false≢true h)
  makes_from (num n) (record_of ps) e l h = absurd (false≢true h)
  makes_from (items ds) (number a b) e l h = absurd (false≢true h)
  makes_from (items ds) (list k a b) e l h =
      let c = length (sets_of f ds) in
      let same = sets_count f ds in
      let s = and_parts (leb a c && leb c b) (in_all (sets_of f ds) k) h in
      let n = within a b c s.0 in
      list_made (omega (arith, n.0)) (omega (arith, n.1)) (papers_from k ds e (omega arith) (all_look f ds k ∙ s.1))
  makes_from (items ds) (record_of ps) e l h = absurd (false≢true h)
  makes_from (fields fs) (number a b) e l h = absurd (false≢true h)
  makes_from (fields fs) (list k a b) e l h = absurd (false≢true h)
  makes_from (fields fs) (record_of ps) e l h = record_made (places_from ps fs e (omega arith) (fields_look f fs ps ∙ h))

-- The way by which a paper that is taken is made.
pub made_by : (f : Form) (r a : ℕ) (d : Paper) → Taken f (suc r) a d → (w : ℕ) × (w < length (ways_at f a)) × Makes f r (way_at f a w) d
made_by f r a d t =
    let w = taken_by f d a t.taken in
    (w.0, w.1, makes_from f r d (way_at f a w.0) t.well_made t.flat w.2)

-- What is made so is well made, taken, and no deeper.
abbrev StartsAfter : ℕ → List Place → Type 0
StartsAfter x [] = 0 ≤ x
StartsAfter x (p ∷ ps) = x < p.name

rising_rest : (p : Place) (ps : List Place) → rising (p ∷ ps) ≡ true → StartsAfter p.name ps × (rising ps ≡ true)
unfolding rising
rising_rest p [] e = (omega arith, refl)
rising_rest p (q ∷ ps) e = let s = and_parts (ltb p.name q.name) (rising (q ∷ ps)) e in (ltb-true p.name q.name s.0, s.1)

starts_before : (x y : ℕ) (ps : List Place) → x ≤ y → StartsAfter y ps → StartsAfter x ps
starts_before x y [] l h = omega arith
starts_before x y (p ∷ ps) l h = omega arith

module _ (f : Form) (r : ℕ) where
  record PapersGood (k : ℕ) (ds : Papers) : Type 0 where
    well_made : all_well ds ≡ true
    taken : all_take ds f k ≡ true
    flat : all_deep ds ≤ r

  papers_good : {k : ℕ} {ds : Papers} → PapersTaken f r k ds → PapersGood k ds
  unfolding well deep takes
  papers_good none = record { well_made = refl; taken = refl; flat = omega arith }
  papers_good {k} (more {d} {ds} t h) =
      let s = papers_good h in
      record {
        well_made = and_from (well d) (all_well ds) t.well_made s.well_made;
        taken = and_from (takes d f k) (all_take ds f k) t.taken s.taken;
        flat = omega (arith, t.flat, s.flat);
      }

  record FieldsGood (ps : List Place) (fs : Fields) : Type 0 where
    well_made : fields_well fs ≡ true
    taken : fields_take fs f ps ≡ true
    flat : fields_deep fs ≤ r
    after : (x : ℕ) → StartsAfter x ps → after_all x fs ≡ true

  -- a place is passed by fields of later names
  taken_past : (p : Place) (ps : List Place) (fs : Fields) → p.must ≡ false → after_all p.name fs ≡ true →
      fields_take fs f ps ≡ true → fields_take fs f (p ∷ ps) ≡ true
  unfolding takes none_must after_all
  taken_past p ps no_fields m l h = and_from (not p.must) (none_must ps) (not_from_false p.must m) h
  taken_past p ps (field x d fs) m l h = rw (find_past x p ps (λ e. omega (arith, ltb-true p.name x l)) m) h

  fields_good : {ps : List Place} {fs : Fields} → PlacesFilled f r ps fs → rising ps ≡ true → FieldsGood ps fs
  unfolding well deep takes none_must after_all
  fields_good none e = record { well_made = refl; taken = refl; flat = omega arith; after = λ x l. refl }
  fields_good (left_out {p} {ps} {fs} m h) e =
      let u = rising_rest p ps e in
      let s = fields_good h u.1 in
      record {
        well_made = s.well_made;
        taken = taken_past p ps fs m (s.after p.name u.0) s.taken;
        flat = s.flat;
        after = λ x l. s.after x (starts_before x p.name ps (omega arith) u.0);
      }
  fields_good (filled {p} {ps} {d} {fs} t h) e =
      let u = rising_rest p ps e in
      let s = fields_good h u.1 in
      record {
        well_made =
            and_from (after_all p.name fs) (well d && fields_well fs) (s.after p.name u.0)
            (and_from (well d) (fields_well fs) t.well_made s.well_made);
        taken = rw (find_here p.name p ps refl) (and_from (takes d f p.kind) (fields_take fs f ps) t.taken s.taken);
        flat = omega (arith, t.flat, s.flat);
        after = λ x l. lt-ltb x p.name l;
      }

  record Good (w : Way) (d : Paper) : Type 0 where
    well_made : well d ≡ true
    taken : look_takes (look_of f d) w ≡ true
    flat : deep d ≤ suc r

  good : {w : Way} {d : Paper} → Makes f r w d → rising (places_of w) ≡ true → Good w d
  unfolding well deep look_of
  good (number_made {a} {b} {n} l m) e =
      record { well_made = refl; taken = and_from (leb a n) (leb n b) (le-leb a n l) (le-leb n b m); flat = omega arith }
  good (list_made {k} {a} {b} {ds} l m h) e =
      let s = papers_good h in
      let c = length (sets_of f ds) in
      let same = sets_count f ds in
      record {
        well_made = s.well_made;
        taken =
            and_from (leb a c && leb c b) (in_all (sets_of f ds) k)
            (and_from (leb a c) (leb c b) (le-leb a c (omega arith)) (le-leb c b (omega arith))) (sym (all_look f ds k) ∙ s.taken);
        flat = omega (arith, s.flat);
      }
  good (record_made {ps} {fs} h) e =
      let s = fields_good h e in
      record { well_made = s.well_made; taken = sym (fields_look f fs ps) ∙ s.taken; flat = omega (arith, s.flat) }

-- The places of every way of a proper form rise.
rising_way : (ws : List Way) (w : ℕ) → proper_ways ws ≡ true → rising (places_of (get_or ws w (number 0 0))) ≡ true
unfolding proper_ways rising
rising_way [] w e = refl
rising_way (number a b ∷ ws) zero e = refl
rising_way (number a b ∷ ws) (suc w) e = rising_way ws w e
rising_way (list k a b ∷ ws) zero e = refl
rising_way (list k a b ∷ ws) (suc w) e = rising_way ws w e
rising_way (record_of ps ∷ ws) zero e = (and_parts (rising ps) (proper_ways ws) e).0
rising_way (record_of ps ∷ ws) (suc w) e = rising_way ws w (and_parts (rising ps) (proper_ways ws) e).1

rising_at : (f : Form) (a w : ℕ) → proper f ≡ true → rising (places_of (way_at f a w)) ≡ true
unfolding proper rising
rising_at [] a w e = refl
rising_at (ws ∷ wss) zero w e = rising_way ws w (and_parts (proper_ways ws) (proper wss) e).0
rising_at (ws ∷ wss) (suc a) w e = rising_at wss a w (and_parts (proper_ways ws) (proper wss) e).1

-- A PAPER THAT A WAY MAKES OF PAPERS AT MOST r DEEP is one that the form takes as the way's kind, at most one deeper, and has the kinds of its look.
pub made_has_paper : (f g : Form) (r a w : ℕ) (d : Paper) → proper f ≡ true → w < length (ways_at f a) → Makes f r (way_at f a w) d →
    HasPaper f g (suc r) a (kinds_by g (look_of g d)) d
made_has_paper f g r a w d e l h =
    let s = good f r h (rising_at f a w e) in
    record { well_made = s.well_made; taken = taken_from f d a w l s.taken; exactly = kinds_by_parts g d; flat = s.flat }

-- The three cases.
module _ (f g : Form) (r a w : ℕ) (e : proper f ≡ true) (l : w < length (ways_at f a)) where
  pub number_has_paper : (lo hi n : ℕ) → way_at f a w ≡ number lo hi → lo ≤ n → n ≤ hi → HasPaper f g (suc r) a (kinds_by g (a_number n)) (num n)
  unfolding look_of
  number_has_paper lo hi n is h m = made_has_paper f g r a w (num n) e l (subst (λ v. Makes f r v (num n)) (sym is) (number_made h m))

  pub list_has_paper : (k lo hi : ℕ) (ds : Papers) → way_at f a w ≡ list k lo hi → lo ≤ count ds → count ds ≤ hi → PapersTaken f r k ds →
      HasPaper f g (suc r) a (kinds_by g (a_list (sets_of g ds))) (items ds)
  unfolding look_of
  list_has_paper k lo hi ds is h m t = made_has_paper f g r a w (items ds) e l (subst (λ v. Makes f r v (items ds)) (sym is) (list_made h m t))

  pub record_has_paper : (ps : List Place) (fs : Fields) → way_at f a w ≡ record_of ps → PlacesFilled f r ps fs →
      HasPaper f g (suc r) a (kinds_by g (a_record (named_of g fs))) (fields fs)
  unfolding look_of
  record_has_paper ps fs is t = made_has_paper f g r a w (fields fs) e l (subst (λ v. Makes f r v (fields fs)) (sym is) (record_made t))
