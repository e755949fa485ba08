-- Rounds: complete, sound, monotone; that dominated sets need not be kept; and what follows for marks that are kept from round to round.
use Rattle.std.proofs.Common.{◌≡◌, ℕ, zero, suc, ◌<◌, ◌≤◌, true, List, [], ◌∷◌, length, sym, refl, ap, ◌∙◌, ap₂, arith}
use Rattle.papers.specs.Paper.{Paper, num, items, fields, Papers, no_items, item, Fields, no_fields, field, deep}
use Rattle.forms.specs.declared.way.Place.{Place}
use Rattle.forms.specs.Form.{Form, Way, proper}
use Rattle.taking.specs.Masks.{test, kinds_of}
use Rattle.pairs.specs.Looks.{Named, unnamed, named, Look, a_number, a_list, a_record, kinds_by, sets_of, named_of, look_of}
use Rattle.pairs.specs.Rounds.{Marks, HasPaper, Reach, AllMarked, Filled, Fills, number_fills, list_fills, record_fills, Round, Under}
use Rattle.pairs.proofs.Looking.{sets_count, kinds_by_parts, SmallerSets, SmallerFields, Smaller, same_number, smaller_list, smaller_record, smaller_length, kinds_by_smaller}
use Rattle.pairs.proofs.Making.{Taken, PapersTaken, PlacesFilled, Makes, number_made, list_made, record_made, made_by, made_has_paper}

pub has_taken : {f g : Form} {r a t : ℕ} {d : Paper} → HasPaper f g r a t d → Taken f r a d
has_taken h = record { well_made = h.well_made; taken = h.taken; flat = h.flat }

pub has_deeper : {f g : Form} {r a t : ℕ} {d : Paper} (s : ℕ) → r ≤ s → HasPaper f g r a t d → HasPaper f g s a t d
has_deeper s l h = record { well_made = h.well_made; taken = h.taken; exactly = h.exactly; flat = omega (arith, h.flat) }

-- Papers, and the looks over the pairs that have papers.
module _ (f g : Form) (r : ℕ) where
  pub reaches : (k : ℕ) (d : Paper) → Taken f r k d → Reach f g r k (kinds_of g d)
  reaches k d t = (d, record { well_made = t.well_made; taken = t.taken; exactly = refl; flat = t.flat })

  pub marked_sets : {k : ℕ} {ds : Papers} → PapersTaken f r k ds → AllMarked (Reach f g r) k (sets_of g ds)
  unfolding sets_of
  marked_sets PapersTaken.none = AllMarked.none
  marked_sets {k} (PapersTaken.more {d} {ds} t h) = AllMarked.more (reaches k d t) (marked_sets h)

  pub marked_fields : {ps : List Place} {fs : Fields} → PlacesFilled f r ps fs → Filled (Reach f g r) ps (named_of g fs)
  unfolding named_of
  marked_fields PlacesFilled.none = Filled.none
  marked_fields (PlacesFilled.left_out m h) = Filled.left_out m (marked_fields h)
  marked_fields (PlacesFilled.filled {p} {ps} {d} t h) = Filled.filled (reaches p.kind d t) (marked_fields h)

  pub marked_look : {w : Way} {d : Paper} → Makes f r w d → Fills (Reach f g r) w (look_of g d)
  unfolding look_of
  marked_look (number_made l m) = number_fills l m
  marked_look (list_made {k} {a} {b} {ds} l m h) = let same = sets_count g ds in list_fills (omega arith) (omega arith) (marked_sets h)
  marked_look (record_made h) = record_fills (marked_fields h)

  pub papers_of : {k : ℕ} {ts : List ℕ} → AllMarked (Reach f g r) k ts → (ds : Papers) × PapersTaken f r k ds × (sets_of g ds ≡ ts)
  unfolding sets_of
  papers_of AllMarked.none = (no_items, PapersTaken.none, refl)
  papers_of (AllMarked.more h hs) =
      let s = papers_of hs in
      (item h.0 s.0, PapersTaken.more (has_taken h.1) s.1, ap₂ ◌∷◌ h.1.exactly s.2)

  pub fields_of : {ps : List Place} {ns : Named} → Filled (Reach f g r) ps ns → (fs : Fields) × PlacesFilled f r ps fs × (named_of g fs ≡ ns)
  unfolding named_of
  fields_of Filled.none = (no_fields, PlacesFilled.none, refl)
  fields_of (Filled.left_out m hs) = let s = fields_of hs in (s.0, PlacesFilled.left_out m s.1, s.2)
  fields_of (Filled.filled {p} h hs) =
      let s = fields_of hs in
      (field p.name h.0 s.0, PlacesFilled.filled (has_taken h.1) s.1, ap₂ (named p.name) h.1.exactly s.2)

  pub paper_of : {w : Way} {l : Look} → Fills (Reach f g r) w l → (d : Paper) × Makes f r w d × (look_of g d ≡ l)
  unfolding look_of
  paper_of (number_fills {a} {b} {n} l m) = (num n, number_made l m, refl)
  paper_of (list_fills l m h) =
      let s = papers_of h in
      let same = sets_count g s.0 in
      let long = ap length s.2 in
      (items s.0, list_made (omega arith) (omega arith) s.1, ap a_list s.2)
  paper_of (record_fills h) = let s = fields_of h in (fields s.0, record_made s.1, ap a_record s.2)

-- THE ROUND IS COMPLETE.
pub round_complete : (f g : Form) (r a t : ℕ) → Reach f g (suc r) a t → Round f g (Reach f g r) a t
round_complete f g r a t h =
    let w = made_by f r a h.0 (has_taken h.1) in
    record { way = w.0; there = w.1; look = look_of g h.0; fills = marked_look f g r w.2; gives = sym (kinds_by_parts g h.0) ∙ h.1.exactly }

-- THE ROUND IS SOUND.
pub round_sound : (f g : Form) (r a t : ℕ) → proper f ≡ true → Round f g (Reach f g r) a t → Reach f g (suc r) a t
round_sound f g r a t e q =
    let s = paper_of f g r q.fills in
    let h = made_has_paper f g r a q.way s.0 e q.there s.1 in (
      s.0,
      record { well_made = h.well_made; taken = h.taken; exactly = h.exactly ∙ ap (kinds_by g) s.2 ∙ q.gives; flat = h.flat },
    )

-- MORE MARKS GIVE NO LESS.
module _ (H M : Marks) (more : (a t : ℕ) → H a t → M a t) where
  more_sets : {k : ℕ} {ts : List ℕ} → AllMarked H k ts → AllMarked M k ts
  more_sets AllMarked.none = AllMarked.none
  more_sets {k} (AllMarked.more {t} h hs) = AllMarked.more (more k t h) (more_sets hs)

  more_fields : {ps : List Place} {fs : Named} → Filled H ps fs → Filled M ps fs
  more_fields Filled.none = Filled.none
  more_fields (Filled.left_out m hs) = Filled.left_out m (more_fields hs)
  more_fields (Filled.filled {p} {ps} {t} h hs) = Filled.filled (more p.kind t h) (more_fields hs)

  pub more_fills : {w : Way} {l : Look} → Fills H w l → Fills M w l
  more_fills (number_fills l m) = number_fills l m
  more_fills (list_fills l m hs) = list_fills l m (more_sets hs)
  more_fills (record_fills hs) = record_fills (more_fields hs)

pub round_monotone : (f g : Form) (H M : Marks) → ((a t : ℕ) → H a t → M a t) → (a t : ℕ) → Round f g H a t → Round f g M a t
round_monotone f g H M more a t q =
    record { way = q.way; there = q.there; look = q.look; fills = more_fills H M more q.fills; gives = q.gives }

-- A look over some marks has a smaller one over marks that have one under each of those.
module _ (H M : Marks) (under : Under H M) where
  sets_under : {k : ℕ} {ts : List ℕ} → AllMarked H k ts → (ss : List ℕ) × AllMarked M k ss × SmallerSets ss ts
  sets_under AllMarked.none = ([], AllMarked.none, SmallerSets.none)
  sets_under {k} (AllMarked.more {t} h hs) =
      let u = under k t h in
      let s = sets_under hs in
      (u.0 ∷ s.0, AllMarked.more u.1 s.1, SmallerSets.more u.2 s.2)

  fields_under : {ps : List Place} {fs : Named} → Filled H ps fs → (es : Named) × Filled M ps es × SmallerFields es fs
  fields_under Filled.none = (unnamed, Filled.none, SmallerFields.none)
  fields_under (Filled.left_out m hs) = let s = fields_under hs in (s.0, Filled.left_out m s.1, s.2)
  fields_under (Filled.filled {p} {ps} {t} h hs) =
      let u = under p.kind t h in
      let s = fields_under hs in
      (named p.name u.0 s.0, Filled.filled u.1 s.1, SmallerFields.more u.2 s.2)

  pub look_under : {w : Way} {l : Look} → Fills H w l → (m : Look) × Fills M w m × Smaller m l
  look_under (number_fills {a} {b} {n} l m) = (a_number n, number_fills l m, same_number)
  look_under (list_fills l m hs) =
      let s = sets_under hs in
      let same = smaller_length s.2 in
      (a_list s.0, list_fills (omega arith) (omega arith) s.1, smaller_list s.2)
  look_under (record_fills hs) = let s = fields_under hs in (a_record s.0, record_fills s.1, smaller_record s.2)

-- DOMINATED SETS NEED NOT BE KEPT.
pub dominated : (f g : Form) (H M : Marks) → Under H M → Under (Round f g H) (Round f g M)
dominated f g H M under a t q =
    let s = look_under H M under q.fills in (
      kinds_by g s.0,
      record { way = q.way; there = q.there; look = s.0; fills = s.1; gives = refl },
      λ k e. ap (λ u. test u k) (sym q.gives) ∙ kinds_by_smaller g s.2 k e,
    )

-- WHAT IS KEPT FROM ROUND TO ROUND.
pub exact_next : (f g : Form) (r : ℕ) (H : Marks) → proper f ≡ true →
    ((a t : ℕ) → (H a t → Reach f g r a t) × (Reach f g r a t → H a t)) →
    (a t : ℕ) → (Round f g H a t → Reach f g (suc r) a t) × (Reach f g (suc r) a t → Round f g H a t)
exact_next f g r H e same a t = (
  λ q. round_sound f g r a t e (round_monotone f g H (Reach f g r) (λ b s. (same b s).0) a t q),
  λ h. round_monotone f g (Reach f g r) H (λ b s. (same b s).1) a t (round_complete f g r a t h),
)

pub next_round : (f g : Form) (r : ℕ) (H M : Marks) → Under (Reach f g r) H → Under (Round f g H) M → Under (Reach f g (suc r)) M
next_round f g r H M before after a t h =
    let s = dominated f g (Reach f g r) H before a t (round_complete f g r a t h) in
    let u = after a s.0 s.1 in
    (u.0, u.1, λ k e. s.2 k (u.2 k e))

-- No paper is 0 deep.
pub deep_some : (d : Paper) → 0 < deep d
unfolding deep
deep_some (num n) = omega arith
deep_some (items ds) = omega arith
deep_some (fields fs) = omega arith

pub adds_nothing : (f g : Form) (M : Marks) → Under (Round f g M) M → (r : ℕ) → Under (Reach f g r) M
adds_nothing f g M h zero a t p = absurd (omega (arith, deep_some p.0, p.1.flat))
adds_nothing f g M h (suc r) a t p = next_round f g r M M (adds_nothing f g M h r) h a t p
