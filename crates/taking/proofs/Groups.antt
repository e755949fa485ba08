-- The ways of one shape: how they come to be listed. Assumes nothing.
use Rattle.std.proofs.Common.{◌≡◌, ℕ, ◌+◌, ◌*◌, ◌<◌, ◌≤◌, true, ◌&&◌, eqb, ◌⊎◌, Option, Some, None, List, [], ◌∷◌, ◌++◌, length, get_or, sym, ap, ◌∙◌, subst, inl, inr, arith, length-append}
use Rattle.std.proofs.Math.Seq.{get_or-append_seam}
use Rattle.std.specs.List.{enumerate_from}
use Rattle.std.specs.Iterator.{Yields, YieldsFirstBy}
use Rattle.std.specs.Iterator.Adapters.{enumerate_source, enumerate_count, enumerate_steps}
use Rattle.std.specs.declared.iter.Enumerate.{Enumerate}
use Rattle.std.proofs.lemmas.Iterator.{YieldsList}
use Rattle.std.proofs.lemmas.Iterator.Consumers.{YieldsList-at, YieldsList-from_enumerate, YieldsList-from_first, YieldsList-turn, YieldsList-end}
use Rattle.std.proofs.lemmas.List.{get_or_append_left, get_or_default}
use Rattle.std.proofs.lemmas.List.FromFn.{length-enumerate_from, get_or-enumerate_from}
use Rattle.std.proofs.lemmas.Bool.{and_parts, and_from, or_left, eqb-true, eq-eqb, cases_lt}
use Rattle.papers.specs.declared.shape.Shape.{Shape}
use Rattle.forms.specs.declared.view.FormView.{FormView}
use Rattle.forms.specs.declared.view.WayView.{WayView}
use Rattle.forms.specs.declared.view.Ways.{Ways}
use Rattle.forms.specs.View.{form_of, way_of, ways_left}
use Rattle.forms.specs.Form.{Form, Way, number, ways_at, way_at}
use Rattle.taking.specs.declared.group.WayAt.{WayAt}
use Rattle.taking.specs.Groups.{shape_taken, entry, stands_at, Lists}
use Rattle.taking.specs.Masks.{some_below}
use Rattle.taking.proofs.Below.{below_some, below_found, below_suc, below_same}

-- every way of the shape is listed
stands : (ws : List WayAt) (k w i : ℕ) → stands_at ws k w i ≡ true → ((entry ws i).kind ≡ k) × ((entry ws i).way ≡ w)
unfolding stands_at
stands ws k w i h =
    let p = and_parts (eqb (entry ws i).kind k) (eqb (entry ws i).way w) h in
    (eqb-true (entry ws i).kind k p.0, eqb-true (entry ws i).way w p.1)

pub group_all : (s : Shape) (f : Form) (ws : List WayAt) → Lists s f ws → (k w : ℕ) → k < length f → w < length (ways_at f k) → shape_taken (way_at f k w) ≡ s →
    (i : ℕ) × (i < length ws) × ((entry ws i).kind ≡ k) × ((entry ws i).way ≡ w)
group_all s f ws h k w l m e =
    let i = below_some (stands_at ws k w) (length ws) (h.all k w l m e) in
    let q = stands ws k w i.0 i.2 in
    (i.0, i.1, q.0, q.1)

-- the ways of a kind, handed out one after the other with their numbers: the next is way n, and after the last there is none
pub record Shown (f : Form) (k n : ℕ) (q : ℕ × WayView) : Type 0 where
  pub there : n < length (ways_at f k)
  pub index : q.0 ≡ n
  pub way : way_of q.1 ≡ way_at f k n

module _ (v : FormView) (k : ℕ) {ws : Ways} {e s : Enumerate Ways} (are : ways_left ws ≡ ways_at (form_of v) k) (source : enumerate_source e ≡ ws) (first : enumerate_count e ≡ 0) (is : s ≡ e) where
  numbered : YieldsList {B = ℕ × Way} (enumerate_steps (YieldsFirstBy way_of ways_left)) (λ p. (p.0, way_of p.1)) s (enumerate_from 0 (ways_at (form_of v) k))
  numbered = YieldsList-at is (YieldsList-from_enumerate (YieldsList-at source (YieldsList-from_first way_of ways_left {s = ws} (ways_at (form_of v) k) are)) first)

  pub next_shown : (xs : List (ℕ × WayView)) (t u : Enumerate Ways) {r : Option (ℕ × WayView)} (q : ℕ × WayView) → Yields (enumerate_steps (YieldsFirstBy way_of ways_left)) s xs t →
      enumerate_steps (YieldsFirstBy way_of ways_left) t r u → r ≡ Some q → Shown (form_of v) k (length xs) q
  next_shown xs t u {r} q before next given =
      let all = ways_at (form_of v) k in
      let turn = YieldsList-turn numbered xs t before r u q given next in
      let there : length xs < length all = omega (arith, turn.0, length-enumerate_from 0 all) in
      let d : ℕ × Way = (q.0, way_of q.1) in
      let here : d ≡ (0 + length xs, get_or all (length xs) (way_of q.1)) = turn.1 ∙ get_or-enumerate_from 0 all (length xs) d there in
      record {
        there = there;
        index = omega (arith, ap (λ p. p.0) here);
        way = ap (λ p. p.1) here ∙ get_or_default all (length xs) (way_of q.1) (number 0 0) there;
      }

  pub none_shown : (xs : List (ℕ × WayView)) (t u : Enumerate Ways) {r : Option (ℕ × WayView)} → Yields (enumerate_steps (YieldsFirstBy way_of ways_left)) s xs t →
      enumerate_steps (YieldsFirstBy way_of ways_left) t r u → r ≡ None → length xs ≡ length (ways_at (form_of v) k)
  none_shown xs t u {r} before next given = (YieldsList-end numbered xs t before r u given next).1 ∙ length-enumerate_from 0 (ways_at (form_of v) k)

-- way w of kind k comes before way j of kind i
abbrev Before : ℕ → ℕ → ℕ → ℕ → Type 0
Before i j k w = (k < i) ⊎ ((k ≡ i) × (w < j))

-- what an entry keeps to
abbrev Listed : Shape → Form → WayAt → Type 0
Listed s f a = (a.kind < length f) × (a.way < length (ways_at f a.kind)) × (shape_taken (way_at f a.kind a.way) ≡ s)

-- the ways of the shape before way j of kind i are listed
pub record Grouped (s : Shape) (f : Form) (i j : ℕ) (ws : List WayAt) : Type 0 where
  pub few : length ws ≤ 9 * i + j
  pub there : (n : ℕ) → n < length ws → Listed s f (entry ws n)
  pub all : (k w : ℕ) → Before i j k w → w < length (ways_at f k) → shape_taken (way_at f k w) ≡ s → some_below (stands_at ws k w) (length ws) ≡ true

before_next : (i j k w : ℕ) → Before i (j + 1) k w → Before i j k w ⊎ ((k ≡ i) × (w ≡ j))
before_next i j k w (inl b) = inl (inl b)
before_next i j k w (inr b) = elim (cases_lt w j) [ inl c ↦ inl (inr (b.0, c)) | inr c ↦ inr (b.0, omega (arith, b.1)) ]

-- the next way has another shape
pub grouped_other : (s : Shape) (f : Form) (i j : ℕ) (ws : List WayAt) → Grouped s f i j ws → (shape_taken (way_at f i j) ≡ s → ⊥) → Grouped s f i (j + 1) ws
grouped_other s f i j ws h other = record {
  few = omega (arith, h.few);
  there = h.there;
  all = λ k w b l e. elim (before_next i j k w b) [
    | inl c ↦ h.all k w c l e
    | inr c ↦ absurd (other (subst (λ n. shape_taken (way_at f n j) ≡ s) c.0 (subst (λ n. shape_taken (way_at f k n) ≡ s) c.1 e)))
  ];
}

-- the next way has the shape, and is listed
pub grouped_push : (s : Shape) (f : Form) (i j : ℕ) (ws : List WayAt) → Grouped s f i j ws → i < length f → j < length (ways_at f i) →
    shape_taken (way_at f i j) ≡ s → Grouped s f i (j + 1) (ws ++ record { kind = i; way = j } ∷ [])
unfolding stands_at
grouped_push s f i j ws h l m shaped = record {
  few = omega (arith, longer, h.few);
  there = λ n b. elim (cases_lt n (length ws)) [
    | inl c ↦ subst (Listed s f) (sym (as_before n c)) (h.there n c)
    | inr c ↦
        let last : length ws ≡ n = omega (arith, longer) in
        subst (λ q. Listed s f (entry more q)) last (subst (Listed s f) (sym at_end) (l, m, shaped))
  ];
  all = λ k w b c d. ap (some_below (stands_at more k w)) longer ∙ elim (before_next i j k w b) [
    | inl q ↦
        below_suc (stands_at more k w) (length ws)
        ∙ or_left (some_below (stands_at more k w) (length ws)) (stands_at more k w (length ws))
        (below_same (stands_at more k w) (stands_at ws k w) (length ws) (λ n o. ap (λ x. eqb x.kind k && eqb x.way w) (as_before n o)) ∙ h.all k w q c d)
    | inr q ↦
        below_found (stands_at more k w) (length ws + 1) (length ws) (omega arith)
        (and_from (eqb (entry more (length ws)).kind k) (eqb (entry more (length ws)).way w)
        (eq-eqb (entry more (length ws)).kind k (ap (λ x. x.kind) at_end ∙ sym q.0)) (eq-eqb (entry more (length ws)).way w (ap (λ x. x.way) at_end ∙ sym q.1)))
  ];
}
  where
    here : WayAt
    here = record { kind = i; way = j }

    more : List WayAt
    more = ws ++ here ∷ []

    longer : length more ≡ length ws + 1
    longer = length-append ws (here ∷ [])

    as_before : (n : ℕ) → n < length ws → entry more n ≡ entry ws n
    as_before n b = get_or_append_left ws (here ∷ []) (record { kind = 0; way = 0 }) n b

    at_end : entry more (length ws) ≡ here
    at_end = get_or-append_seam ws here [] (record { kind = 0; way = 0 })

-- all ways of kind i
pub grouped_kind : (s : Shape) (f : Form) (i j : ℕ) (ws : List WayAt) → Grouped s f i j ws → j ≡ length (ways_at f i) → j ≤ 9 → Grouped s f (i + 1) 0 ws
grouped_kind s f i j ws h e few = record {
  few = omega (arith, h.few);
  there = h.there;
  all = λ k w b l d. elim b [
    | inl c ↦ elim (cases_lt k i) [
      | inl o ↦ h.all k w (inl o) l d
      | inr o ↦
          let same : k ≡ i = omega arith in
          h.all k w (inr (same, omega (arith, e, ap (λ n. length (ways_at f n)) same))) l d
    ]
    | inr c ↦ absurd (omega (arith, c.1))
  ];
}

-- all kinds
pub grouped_all : (s : Shape) (f : Form) (i : ℕ) (ws : List WayAt) → Grouped s f i 0 ws → i ≡ length f → length f ≤ 16 → Lists s f ws
grouped_all s f i ws h e few = record {
  few = omega (arith, h.few);
  kind = λ n l. (h.there n l).0;
  way = λ n l. (h.there n l).1;
  shaped = λ n l. (h.there n l).2;
  all = λ k w l. h.all k w (inl (omega arith));
}
