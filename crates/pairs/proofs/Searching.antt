-- Whether there is a look over decided marks that has a decided property can be decided. The property is any, so that a search for the parts of a
-- look is a search for the first part and then for the others.
use Rattle.std.proofs.Common.{◌≡◌, ℕ, zero, suc, ◌<◌, ◌≤◌, Bool, true, false, ◌⊎◌, List, [], ◌∷◌, length, refl, ap, subst, inl, inr, arith}
use mathlib.Core.Logic.Dec
use native.Mathlib.Decide.{map_dec, ℕ_discrete, dec_le}
use Rattle.std.proofs.lemmas.Bool.{cases_eq, true≢false}
use Rattle.forms.specs.declared.way.Place.{Place}
use Rattle.forms.specs.Form.{Form, Way, number, list, record_of, ways_at, way_at}
use Rattle.pairs.specs.Looks.{Named, unnamed, named, Look, a_number, a_list, a_record, kinds_by}
use Rattle.pairs.specs.Rounds.{Marks, AllMarked, Filled, Fills, number_fills, list_fills, record_fills, Round}

pub is_false : (b : Bool) → Dec (b ≡ false)
is_false true = no true≢false
is_false false = yes refl

either : {A B : Type 0} → Dec A → Dec B → Dec (A ⊎ B)
either (yes a) e = yes (inl a)
either (no n) (yes b) = yes (inr b)
either (no n) (no m) = no (elim [ inl a ↦ n a | inr b ↦ m b ])

-- The least number with a property, if it is below n.
abbrev pub Least : (ℕ → Type 0) → ℕ → Type 0
Least P n = (k : ℕ) × (k < n) × P k × ((j : ℕ) → P j → k ≤ j)

module _ (P : ℕ → Type 0) (decide : (k : ℕ) → Dec (P k)) where
  pub least : (n : ℕ) → Least P n ⊎ ((k : ℕ) → P k → n ≤ k)
  least zero = inr (λ k p. omega arith)
  least (suc n) = go (least n) (decide n)
    where
      go : Least P n ⊎ ((k : ℕ) → P k → n ≤ k) → Dec (P n) → Least P (suc n) ⊎ ((k : ℕ) → P k → suc n ≤ k)
      go (inl s) d = inl (s.0, omega (arith, s.1), s.2, s.3)
      go (inr h) (yes p) = inl (n, omega arith, p, h)
      go (inr h) (no q) =
          inr λ k p. elim (cases_eq k n) [ inl e ↦ absurd (q (subst P e p)) | inr e ↦ omega (arith, h k p) ]

  pub search_below : (n : ℕ) → Dec ((k : ℕ) × (k < n) × P k)
  search_below n = elim (least n) [ inl s ↦ yes (s.0, s.1, s.2) | inr h ↦ no (λ s. omega (arith, s.1, h s.0 s.2)) ]

-- Looks over decided marks, the marked sets below n.
module _ (H : Marks) (decide : (k t : ℕ) → Dec (H k t)) (n : ℕ) (small : (k t : ℕ) → H k t → t < n) where
  abbrev Sets : ℕ → ℕ → (List ℕ → Type 0) → Type 0
  Sets k c Q = (ts : List ℕ) × (length ts ≡ c) × AllMarked H k ts × Q ts

  abbrev FirstSet : ℕ → ℕ → (List ℕ → Type 0) → Type 0
  FirstSet k c Q = (t : ℕ) × (t < n) × (H k t × Sets k c (λ ts. Q (t ∷ ts)))

  no_sets : (k : ℕ) (Q : List ℕ → Type 0) (ts : List ℕ) → length ts ≡ 0 → Q ts → Q []
  no_sets k Q [] e q = q
  no_sets k Q (t ∷ ts) e q = absurd (omega arith)

  first_set : {k : ℕ} {ts : List ℕ} (c : ℕ) (Q : List ℕ → Type 0) → AllMarked H k ts → length ts ≡ suc c → Q ts → FirstSet k c Q
  first_set c Q AllMarked.none e q = absurd (omega arith)
  first_set {k} c Q (AllMarked.more {t} {ts} h hs) e q = (t, small k t h, (h, (ts, omega arith, hs, q)))

  some_sets : (k c : ℕ) (Q : List ℕ → Type 0) → ((ts : List ℕ) → Dec (Q ts)) → Dec (Sets k c Q)
  some_sets k zero Q d = map_dec (λ q. ([], refl, AllMarked.none, q)) (λ s. no_sets k Q s.0 s.1 s.3) (d [])
  some_sets k (suc c) Q d =
      map_dec {A = FirstSet k c Q}
      (λ s. (s.0 ∷ s.2.1.0, ap suc s.2.1.1, AllMarked.more s.2.0 s.2.1.2, s.2.1.3)) (λ s. first_set c Q s.2 s.1 s.3)
      (search_below (λ t. H k t × Sets k c (λ ts. Q (t ∷ ts))) (λ t. Dec.and (decide k t) (some_sets k c (λ ts. Q (t ∷ ts)) (λ ts. d (t ∷ ts)))) n)

  abbrev FieldsOver : List Place → (Named → Type 0) → Type 0
  FieldsOver ps Q = (fs : Named) × Filled H ps fs × Q fs

  abbrev FirstPlace : Place → List Place → (Named → Type 0) → Type 0
  FirstPlace p ps Q =
      ((p.must ≡ false) × FieldsOver ps Q) ⊎ ((t : ℕ) × (t < n) × (H p.kind t × FieldsOver ps (λ fs. Q (named p.name t fs))))

  no_places : {fs : Named} (Q : Named → Type 0) → Filled H [] fs → Q fs → Q unnamed
  no_places Q Filled.none q = q

  first_place : {p : Place} {ps : List Place} {fs : Named} (Q : Named → Type 0) → Filled H (p ∷ ps) fs → Q fs → FirstPlace p ps Q
  first_place Q (Filled.left_out {p} {ps} {fs} m hs) q = inl (m, (fs, hs, q))
  first_place Q (Filled.filled {p} {ps} {t} {fs} h hs) q = inr (t, small p.kind t h, (h, (fs, hs, q)))

  place_first : {p : Place} {ps : List Place} (Q : Named → Type 0) → FirstPlace p ps Q → FieldsOver (p ∷ ps) Q
  place_first Q (inl s) = (s.1.0, Filled.left_out s.0 s.1.1, s.1.2)
  place_first {p} Q (inr s) = (named p.name s.0 s.2.1.0, Filled.filled s.2.0 s.2.1.1, s.2.1.2)

  some_fields : (ps : List Place) (Q : Named → Type 0) → ((fs : Named) → Dec (Q fs)) → Dec (FieldsOver ps Q)
  some_fields [] Q d = map_dec (λ q. (unnamed, Filled.none, q)) (λ s. no_places Q s.1 s.2) (d unnamed)
  some_fields (p ∷ ps) Q d =
      map_dec (place_first Q) (λ s. first_place Q s.1 s.2)
      (either (Dec.and (is_false p.must) (some_fields ps Q d))
      (search_below (λ t. H p.kind t × FieldsOver ps (λ fs. Q (named p.name t fs)))
      (λ t. Dec.and (decide p.kind t) (some_fields ps (λ fs. Q (named p.name t fs)) (λ fs. d (named p.name t fs)))) n))

  abbrev NumberIn : ℕ → ℕ → (Look → Type 0) → Type 0
  NumberIn a b Q = (i : ℕ) × (i < suc b) × ((a ≤ i) × Q (a_number i))

  abbrev ListIn : ℕ → ℕ → ℕ → (Look → Type 0) → Type 0
  ListIn k a b Q = (c : ℕ) × (c < suc b) × ((a ≤ c) × Sets k c (λ ts. Q (a_list ts)))

  number_in : {a b : ℕ} {l : Look} (Q : Look → Type 0) → Fills H (number a b) l → Q l → NumberIn a b Q
  number_in Q (number_fills {a} {b} {n = i} l m) q = (i, omega arith, (l, q))

  list_in : {k a b : ℕ} {l : Look} (Q : Look → Type 0) → Fills H (list k a b) l → Q l → ListIn k a b Q
  list_in Q (list_fills {k} {a} {b} {ts} l m hs) q = (length ts, omega arith, (l, (ts, refl, hs, q)))

  record_in : {ps : List Place} {l : Look} (Q : Look → Type 0) → Fills H (record_of ps) l → Q l → FieldsOver ps (λ fs. Q (a_record fs))
  record_in Q (record_fills {ps} {fs} hs) q = (fs, hs, q)

  some_look : (w : Way) (Q : Look → Type 0) → ((l : Look) → Dec (Q l)) → Dec ((l : Look) × Fills H w l × Q l)
  some_look (number a b) Q d =
      map_dec {A = NumberIn a b Q} (λ s. (a_number s.0, number_fills s.2.0 (omega (arith, s.1)), s.2.1)) (λ s. number_in Q s.1 s.2)
      (search_below (λ i. (a ≤ i) × Q (a_number i)) (λ i. Dec.and (dec_le a i) (d (a_number i))) (suc b))
  some_look (list k a b) Q d =
      map_dec {A = ListIn k a b Q}
      (λ s. let e = s.2.1.1 in (a_list s.2.1.0, list_fills (omega (arith, s.2.0)) (omega (arith, s.1)) s.2.1.2, s.2.1.3))
      (λ s. list_in Q s.1 s.2)
      (search_below (λ c. (a ≤ c) × Sets k c (λ ts. Q (a_list ts)))
      (λ c. Dec.and (dec_le a c) (some_sets k c (λ ts. Q (a_list ts)) (λ ts. d (a_list ts)))) (suc b))
  some_look (record_of ps) Q d =
      map_dec (λ s. (a_record s.0, record_fills s.1, s.2)) (λ s. record_in Q s.1 s.2)
      (some_fields ps (λ fs. Q (a_record fs)) (λ fs. d (a_record fs)))

  -- Whether a round gives a pair.
  pub round_decided : (f g : Form) (a t : ℕ) → Dec (Round f g H a t)
  round_decided f g a t =
      map_dec (λ s. record { way = s.0; there = s.1; look = s.2.0; fills = s.2.1; gives = s.2.2 })
      (λ q. (q.way, q.there, (q.look, q.fills, q.gives)))
      (search_below (λ w. (l : Look) × Fills H (way_at f a w) l × (kinds_by g l ≡ t))
      (λ w. some_look (way_at f a w) (λ l. kinds_by g l ≡ t) (λ l. ℕ_discrete (kinds_by g l) t)) (length (ways_at f a)))
