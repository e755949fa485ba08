-- The kinds that take a paper, made while the paper is read: of a number at once, of a list paper by paper, of a record field by field.
use Rattle.std.proofs.Common.{◌≡◌, ℕ, suc, ◌+◌, ◌-◌, ◌^◌, ◌<◌, ◌≤◌, Bool, true, false, ◌&&◌, ◌||◌, eqb, leb, List, [], ◌∷◌, Option, Some, None, length, drop, sym, refl, ap, ◌∙◌, subst, arith}
use mathlib.Core.Bool.{and-true, and_assoc}
use lib.Bits.{bit_and}
use Rattle.std.proofs.lemmas.List.{get_or_past}
use Rattle.std.proofs.lemmas.Bool.{and_parts, and_from, eqb-true, eq-eqb, false≢true}
use Rattle.std.proofs.lemmas.Bool.Decides.{same_from_decides}
use Rattle.papers.specs.Paper.{Paper, num, items, fields, Papers, no_items, item, Fields, no_fields, field, count}
use Rattle.papers.specs.declared.shape.Shape.{Shape}
use Rattle.papers.specs.declared.shape.Shape.TheVariants.{Number, List as ListShape, Record}
use Rattle.forms.specs.declared.way.Place.{Place}
use Rattle.forms.specs.Form.{Form, Way, number, list, record_of, ways_at, way_at, places_of, KindsThereWays, Closed}
use Rattle.taking.specs.declared.group.WayAt.{WayAt}
use Rattle.taking.specs.Groups.{shape_taken, entry, listed_way, listed_places, Lists, sees_as, kind_sees, kinds_seen}
use Rattle.taking.specs.Left.{both_take, list_last, left_take, left_sees, record_last}
use Rattle.taking.specs.Masks.{mask, test, kinds_of, list_kinds, record_kinds, list_taken}
use Rattle.taking.specs.Advance.{progress_at, ends_well, GoesOn, Advances}
use Rattle.taking.specs.Takes.{any, number_takes, list_takes, record_takes, Found, at, nowhere, find, if_found, takes, all_take, fields_take}
use Rattle.taking.proofs.Below.{below_some, below_found, any_below}
use Rattle.taking.proofs.Groups.{group_all}
use Rattle.taking.proofs.Masks.{test_mask, test_whole, test_and, mask_same, mask_all}
use Rattle.taking.proofs.Sights.{seen_same}

-- a kind that is not there takes nothing, so that the mask says of every number whether it is a kind that takes the paper
pub any_none : (p : Way → Bool) (f : Form) (k : ℕ) → length f ≤ k → any p (ways_at f k) ≡ false
unfolding any
any_none p f k h = ap (any p) (get_or_past f k [] h)

pub none_there : (d : Paper) (f : Form) (k : ℕ) → length f ≤ k → takes d f k ≡ false
unfolding takes
none_there (num n) f k h = any_none (number_takes n) f k h
none_there (items ds) f k h = any_none (list_takes (count ds) (all_take ds f)) f k h
none_there (fields fs) f k h = any_none (record_takes (fields_take fs f)) f k h

pub test_kinds : (f : Form) (d : Paper) (k : ℕ) → test (kinds_of f d) k ≡ takes d f k
unfolding kinds_of
test_kinds f d = test_whole (takes d f) (length f) (none_there d f)

-- the kinds of which a way passes a test are those of which a listed way does, where only ways of the listed shape pass
abbrev pub passes : (Way → Bool) → Way → ℕ → Bool
passes p w i = p w

any_listed : (s : Shape) (f : Form) (ws : List WayAt) → Lists s f ws → (p : Way → Bool) → ((w : Way) → p w ≡ true → shape_taken w ≡ s) →
    (k : ℕ) → k < length f → any p (ways_at f k) ≡ true → kind_sees (passes p) f ws (length ws) k ≡ true
unfolding sees_as
any_listed s f ws all p only k l h =
    let w = below_some (λ i. p (way_at f k i)) (length (ways_at f k)) (sym (any_below p (number 0 0) (ways_at f k)) ∙ h) in
    let i = group_all s f ws all k w.0 l w.1 (only (way_at f k w.0) w.2) in
    let same : p (listed_way f ws i.0) ≡ true =
    ap (λ j. p (way_at f j (entry ws i.0).way)) i.2 ∙ ap (λ j. p (way_at f k j)) i.3 ∙ w.2 in
    below_found (sees_as (passes p) f ws k) (length ws) i.0 i.1
    (and_from (eqb (entry ws i.0).kind k) (p (listed_way f ws i.0)) (eq-eqb (entry ws i.0).kind k i.2) same)

listed_any : (s : Shape) (f : Form) (ws : List WayAt) → Lists s f ws → (p : Way → Bool) → (k : ℕ) →
    kind_sees (passes p) f ws (length ws) k ≡ true → any p (ways_at f k) ≡ true
unfolding sees_as
listed_any s f ws all p k h =
    let i = below_some (sees_as (passes p) f ws k) (length ws) h in
    let a = entry ws i.0 in
    let q = and_parts (eqb a.kind k) (p (listed_way f ws i.0)) i.2 in
    subst (λ j. any p (ways_at f j) ≡ true) (eqb-true a.kind k q.0)
    (any_below p (number 0 0) (ways_at f a.kind)
    ∙ below_found (λ w. p (way_at f a.kind w)) (length (ways_at f a.kind)) a.way (all.way i.0 i.1) q.1)

kinds_any : (s : Shape) (f : Form) (ws : List WayAt) → Lists s f ws → (p : Way → Bool) → ((w : Way) → p w ≡ true → shape_taken w ≡ s) →
    mask (λ k. any p (ways_at f k)) (length f) ≡ kinds_seen (passes p) f ws
unfolding kinds_seen
kinds_any s f ws all p only =
    mask_same (λ k. any p (ways_at f k)) (kind_sees (passes p) f ws (length ws)) (length f)
    (λ k l. same_from_decides {P = any p (ways_at f k) ≡ true} (any p (ways_at f k)) (kind_sees (passes p) f ws (length ws) k) (λ e. e, λ e. e)
    (listed_any s f ws all p k, any_listed s f ws all p only k l))

-- only ways of one shape take a number, a list, a record
numbers_only : (n : ℕ) (w : Way) → number_takes n w ≡ true → shape_taken w ≡ Number
numbers_only n (number a b) e = refl
numbers_only n (list k a b) e = absurd (false≢true e)
numbers_only n (record_of ps) e = absurd (false≢true e)

lists_only : (n : ℕ) (p : ℕ → Bool) (w : Way) → list_takes n p w ≡ true → shape_taken w ≡ ListShape
lists_only n p (number a b) e = absurd (false≢true e)
lists_only n p (list k a b) e = refl
lists_only n p (record_of ps) e = absurd (false≢true e)

records_only : (p : List Place → Bool) (w : Way) → record_takes p w ≡ true → shape_taken w ≡ Record
records_only p (number a b) e = absurd (false≢true e)
records_only p (list k a b) e = absurd (false≢true e)
records_only p (record_of ps) e = refl

-- numbers
pub number_kinds : (f : Form) (ws : List WayAt) → Lists Number f ws → (n : ℕ) → kinds_of f (num n) ≡ kinds_seen (passes (number_takes n)) f ws
unfolding kinds_of takes
number_kinds f ws all n = kinds_any Number f ws all (number_takes n) (numbers_only n)

-- lists: only kinds that are there matter
any_list_same : (n c : ℕ) (p q : ℕ → Bool) → ((k : ℕ) → k < n → p k ≡ q k) → (ws : List Way) → KindsThereWays n ws →
    any (list_takes c p) ws ≡ any (list_takes c q) ws
unfolding any KindsThereWays
any_list_same n c p q h [] t = refl
any_list_same n c p q h (number a b ∷ ws) t = any_list_same n c p q h ws t
any_list_same n c p q h (list k a b ∷ ws) t =
    ap (λ x. ((leb a c && leb c b) && x) || any (list_takes c p) ws) (h k t.0)
    ∙ ap (λ x. ((leb a c && leb c b) && q k) || x) (any_list_same n c p q h ws t.1)
any_list_same n c p q h (record_of ps ∷ ws) t = any_list_same n c p q h ws t.1

pub list_same : (f : Form) → Closed f → (c e : ℕ) (p q : ℕ → Bool) → c ≡ e → ((k : ℕ) → k < length f → p k ≡ q k) → list_taken f c p ≡ list_taken f e q
unfolding list_taken Closed
list_same f closed c e p q same h =
    ap (λ n. list_taken f n p) same
    ∙ mask_same (λ k. any (list_takes e p) (ways_at f k)) (λ k. any (list_takes e q) (ways_at f k)) (length f) (λ k l. any_list_same (length f) e p q h (ways_at f k) (closed k l))

pub list_first : (f : Form) (s : ℕ) → Closed f → s ≡ 2 ^ length f - 1 → (ds : Papers) → list_kinds f ds ≡ list_last f 0 s ds
unfolding kinds_of takes list_last list_taken both_take
list_first f s closed full ds = list_same f closed (count ds) (0 + count ds) (all_take ds f) (both_take f s ds) (omega arith) (λ k l. ap (λ b. b && all_take ds f k) (sym (all_in k l)))
  where
    all_in : (k : ℕ) → k < length f → test s k ≡ true
    all_in k l =
        let whole = mask_all (λ i. true) (length f) (λ i b. refl) in
        ap (λ t. test t k) (full ∙ omega arith) ∙ test_mask (λ i. true) (length f) k l

pub list_next : (f : Form) (i j s v u : ℕ) → Closed f → j ≡ suc i → u ≡ bit_and s v → (d : Paper) (ds : Papers) → kinds_of f d ≡ v →
    list_last f i s (item d ds) ≡ list_last f j u ds
unfolding list_last both_take count takes
list_next f i j s v u closed e h d ds same =
    list_same f closed (i + suc (count ds)) (j + count ds) (both_take f s (item d ds)) (both_take f u ds) (omega arith) λ k l.
    let here : takes d f k ≡ test v k = sym (test_kinds f d k) ∙ ap (λ t. test t k) same in
    ap (λ b. test s k && (b && all_take ds f k)) here ∙ sym (and_assoc (test s k) (test v k) (all_take ds f k))
    ∙ ap (λ b. b && all_take ds f k) (sym (test_and s v k) ∙ ap (λ t. test t k) (sym h))

pub list_kinds_seen : (f : Form) (ws : List WayAt) → Lists ListShape f ws → (n s : ℕ) → list_taken f n (test s) ≡ kinds_seen (passes (list_takes n (test s))) f ws
unfolding list_taken
list_kinds_seen f ws all n s = kinds_any ListShape f ws all (list_takes n (test s)) (lists_only n (test s))

pub list_over : (f : Form) (i s : ℕ) → Closed f → list_last f i s no_items ≡ list_taken f i (test s)
unfolding list_last both_take count takes
list_over f i s closed = list_same f closed (i + 0) i (both_take f s no_items) (test s) (omega arith) (λ k l. and-true (test s k))

-- records
pub record_first : (f : Form) (ws : List WayAt) (ways : List (Option ℕ)) → Lists Record f ws → ((i : ℕ) → progress_at ways i ≡ Some 0) → (fs : Fields) →
    record_kinds f fs ≡ record_last f ws ways fs
unfolding kinds_of takes record_last left_take
record_first f ws ways all h fs =
    kinds_any Record f ws all (record_takes (fields_take fs f)) (records_only (fields_take fs f))
    ∙ seen_same (passes (record_takes (fields_take fs f))) (left_sees f fs ways) f ws
    (λ i b. ap (λ p. record_takes (left_take f fs p) (listed_way f ws i)) (sym (h i)))

-- one field more
found_next : (f : Form) (m x : ℕ) (d : Paper) (fs : Fields) → kinds_of f d ≡ m → (found : Found) (ps : List Place) (q : Option ℕ) → GoesOn m found ps q →
    if_found found (λ k qs. takes d f k && fields_take fs f qs) ≡ left_take f fs q ps
unfolding left_take
found_next f m x d fs same (at k qs) ps (Some i) h =
    ap (λ b. b && fields_take fs f qs) (sym (test_kinds f d k) ∙ ap (λ t. test t k) same ∙ h.0) ∙ ap (fields_take fs f) h.1
found_next f m x d fs same (at k qs) ps None h = ap (λ b. b && fields_take fs f qs) (sym (test_kinds f d k) ∙ ap (λ t. test t k) same ∙ h)
found_next f m x d fs same nowhere ps (Some i) h = absurd h
found_next f m x d fs same nowhere ps None h = refl

left_next : (f : Form) (m x : ℕ) (d : Paper) (fs : Fields) → kinds_of f d ≡ m → (p q : Option ℕ) (w : Way) → Advances x m (places_of w) p q →
    record_takes (left_take f (field x d fs) p) w ≡ record_takes (left_take f fs q) w
unfolding left_take takes
left_next f m x d fs same p q (number a b) h = refl
left_next f m x d fs same p q (list k a b) h = refl
left_next f m x d fs same (Some i) q (record_of ps) h = found_next f m x d fs same (find x (drop i ps)) ps q h
left_next f m x d fs same None q (record_of ps) h = ap (λ r. left_take f fs r ps) (sym h)

pub record_next : (f : Form) (ws : List WayAt) (m x : ℕ) (old new : List (Option ℕ)) →
    ((i : ℕ) → i < length ws → Advances x m (listed_places f ws i) (progress_at old i) (progress_at new i)) →
    (d : Paper) (fs : Fields) → kinds_of f d ≡ m → record_last f ws old (field x d fs) ≡ record_last f ws new fs
unfolding record_last
record_next f ws m x old new h d fs same =
    seen_same (left_sees f (field x d fs) old) (left_sees f fs new) f ws
    (λ i b. left_next f m x d fs same (progress_at old i) (progress_at new i) (listed_way f ws i) (h i b))

abbrev pub record_sees : List (Option ℕ) → Way → ℕ → Bool
record_sees ways w i = record_takes (ends_well (progress_at ways i)) w

pub record_over : (f : Form) (ws : List WayAt) (ways : List (Option ℕ)) → record_last f ws ways no_fields ≡ kinds_seen (record_sees ways) f ws
unfolding record_last left_take takes
record_over f ws ways =
    seen_same (left_sees f no_fields ways) (record_sees ways) f ws (λ i b. at (progress_at ways i) (listed_way f ws i))
  where
    at : (p : Option ℕ) (w : Way) → record_takes (left_take f no_fields p) w ≡ record_takes (ends_well p) w
    at p (number a b) = refl
    at p (list k a b) = refl
    at (Some i) (record_of ps) = refl
    at None (record_of ps) = refl
