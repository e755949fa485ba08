-- A node put into the table, for a pair under which nothing was found.
use Rattle.std.proofs.Common.{◌≡◌, ℕ, suc, ◌+◌, ◌-◌, ◌<◌, ◌≤◌, Bool, true, false, not, ◌&&◌, eqb, ◌⊎◌, List, [], ◌∷◌, ◌++◌, length, get_or, take, set, sym, refl, ap, ◌∙◌, subst, inl, inr, arith}
use Rattle.std.proofs.lemmas.List.{length-set, length_push, length-take-le, take_more_set, get_or_append_left, get_or_push, get_or-set_same, get_or-set_other}
use Rattle.std.proofs.lemmas.Bool.{cases_eq, cases_Bool, cases_order, eqb-true, eq-eqb, and_parts, and_cases, or_left, or_right, or_cases, not-true, not-false, both_ways}
use Rattle.taking.specs.Masks.{test}
use Rattle.taking.proofs.Folding.{test_kinds}
use Rattle.pairs.specs.declared.node.Node.{Node}
use Rattle.pairs.specs.declared.node.Node.TheVariants.{Number}
use Rattle.pairs.specs.declared.round.Round.{Round}
use Rattle.pairs.specs.declared.table.Table.{Table}
use Rattle.pairs.specs.Nodes.{node_paper, NamesBelow, NamesEarlier}
use Rattle.pairs.specs.Rounds.{HasPaper}
use Rattle.pairs.specs.Searches.{one_of, two_of, Running, Stopped, Tried}
use Rattle.pairs.specs.Tables.{found_at, with_set, Marked, MarkedAt, node_of, papers_of, paper_of, HasUnder, pairs_found, minimal_at, mark_at}
use Rattle.pairs.proofs.Families.{inside_itself}
use Rattle.pairs.proofs.Pairing.{pairs_le, pairs_more, found_here, found_other, sets_here}
use Rattle.pairs.proofs.Telling.{told_before, told_last}

-- Nodes that name earlier ones only, and one more that does.
names_push : (ns : List Node) (n : Node) → NamesEarlier ns → NamesBelow (length ns) n → NamesEarlier (ns ++ n ∷ [])
names_push ns n h b i l =
    elim (cases_order i (length ns)) [
      | inl e ↦
          subst (λ x. NamesBelow x (get_or (ns ++ n ∷ []) x (Number 0))) (sym e)
          (subst (NamesBelow (length ns)) (sym (get_or_push ns n (Number 0) (length ns) refl)) b)
      | inr o ↦ elim o [
        | inl m ↦ subst (NamesBelow i) (sym (get_or_append_left ns (n ∷ []) (Number 0) i m)) (h i m)
        | inr m ↦ absurd (omega (arith, length_push ns n))
      ]
    ]

-- The table with this node for the pair of kind a and set t.
abbrev pub added : Table → ℕ → ℕ → Node → Table
added T a t n =
    record {
      count = T.count + 1;
      nodes = set T.nodes T.count n;
      found = set T.found a (with_set (found_at T.found a) t T.count);
    }

module _ (R : Round) (T : Table) (a t : ℕ) (run : Running R T) (here : a < 4) (small : t < 16) (new : HasUnder T a t → ⊥) where
  unmarked : test (found_at T.found a).sets t ≡ false
  unmarked = go (cases_Bool (test (found_at T.found a).sets t))
    where
      go : (test (found_at T.found a).sets t ≡ true) ⊎ (test (found_at T.found a).sets t ≡ false) → test (found_at T.found a).sets t ≡ false
      go (inl e) = absurd (new (t, e, inside_itself t))
      go (inr e) = e

  inside : a < length T.found
  inside = omega (arith, run.rooms.1)

  one_more : (i : ℕ) → pairs_found (set T.found a (with_set (found_at T.found a) t i)) 4 ≡ suc T.count
  one_more i = pairs_more T.found a t i inside 4 here small unmarked ∙ ap suc (sym run.many)

  -- There is room: each pair has one node, and there are 64 pairs.
  pub room_left : T.count < 64
  room_left = omega (arith, one_more 0, pairs_le (set T.found a (with_set (found_at T.found a) t 0)) 4)

  -- What is marked afterwards: the pair, and what was marked before.
  pub marked_new : (n : Node) → Marked (added T a t n) a t
  marked_new n = sets_here T.found a t T.count inside t ∙ or_right (test (found_at T.found a).sets t) (eqb t t) (eq-eqb t t refl)

  marked_kept : (n : Node) (b s : ℕ) → Marked T b s → Marked (added T a t n) b s
  marked_kept n b s h =
      elim (cases_eq b a) [
        | inl e ↦
            subst (λ x. Marked (added T a t n) x s) (sym e)
            (sets_here T.found a t T.count inside s ∙ or_left (test (found_at T.found a).sets s) (eqb t s) (subst (λ x. Marked T x s) e h))
        | inr ne ↦ ap (λ f. test f.sets s) (found_other T.found a t T.count inside b ne) ∙ h
      ]

  marked_which : (n : Node) (b s : ℕ) → Marked (added T a t n) b s → Marked T b s ⊎ ((b ≡ a) × (s ≡ t))
  marked_which n b s h = go (cases_eq b a)
    where
      go : (b ≡ a) ⊎ (b ≡ a → ⊥) → Marked T b s ⊎ ((b ≡ a) × (s ≡ t))
      go (inl e) =
          elim (or_cases (test (found_at T.found a).sets s) (eqb t s) (sym (sets_here T.found a t T.count inside s) ∙ subst (λ x. Marked (added T a t n) x s) e h)) [
            | inl old ↦ inl (subst (λ x. Marked T x s) (sym e) old)
            | inr q ↦ inr (e, sym (eqb-true t s q))
          ]
      go (inr ne) = inl (ap (λ f. test f.sets s) (sym (found_other T.found a t T.count inside b ne)) ∙ h)

  -- The nodes of pairs.
  node_new : (n : Node) → node_of (added T a t n) a t ≡ T.count
  node_new n =
      ap (λ f. get_or f.nodes t 0) (found_here T.found a t T.count inside)
      ∙ get_or-set_same (found_at T.found a).nodes t T.count 0 (omega (arith, run.rooms.2 a here))

  node_kept : (n : Node) (b s : ℕ) → Marked T b s → node_of (added T a t n) b s ≡ node_of T b s
  node_kept n b s h =
      elim (cases_eq b a) [
        | inl e ↦
            subst (λ x. node_of (added T a t n) x s ≡ node_of T x s) (sym e)
            (ap (λ f. get_or f.nodes s 0) (found_here T.found a t T.count inside)
            ∙ get_or-set_other (found_at T.found a).nodes t s T.count 0 (λ q. both_ways (test (found_at T.found a).sets t) unmarked (subst (λ x. Marked T a x) q (subst (λ x. Marked T x s) e h))))
        | inr ne ↦ ap (λ f. get_or f.nodes s 0) (found_other T.found a t T.count inside b ne)
      ]

  module _ (n : Node) (names : NamesBelow T.count n) (paper : HasPaper (one_of R) (two_of R) (suc R.depth) a t (node_paper (papers_of T) n)) where
    fits : T.count < length T.nodes
    fits = omega (arith, run.rooms.0, room_left)

    -- The papers before it stay, and its own is the last.
    paper_before : (i : ℕ) → i < T.count → paper_of (added T a t n) i ≡ paper_of T i
    paper_before i l = told_before T.nodes T.count n fits i l

    paper_last : paper_of (added T a t n) T.count ≡ node_paper (papers_of T) n
    paper_last = told_last T.nodes T.count n fits

    names_earlier : NamesEarlier (take (T.count + 1) (set T.nodes T.count n))
    names_earlier =
        let long = length-take-le T.count T.nodes (omega (arith, fits)) in
        subst NamesEarlier (sym (take_more_set T.nodes T.count n fits))
        (names_push (take T.count T.nodes) n run.names (subst (λ i. NamesBelow i n) (sym long) names))

    -- The round goes on, if the pair is not one that is asked for.
    goes_on : (eqb a R.one.kind && not (test t R.other)) ≡ false → Running R (added T a t n)
    goes_on asked =
        record {
          rooms = (length-set T.nodes T.count n ∙ run.rooms.0, length-set T.found a _ ∙ run.rooms.1, sized);
          many = omega (arith, one_more T.count);
          names = names_earlier;
          there = λ b s h. elim (marked_which n b s h) [
            | inl old ↦ subst (λ x. x < T.count + 1) (sym (node_kept n b s old)) (omega (arith, run.there b s old))
            | inr e ↦ there_new b s e.0 e.1
          ];
          papers = papers;
          clean = λ s h. elim (marked_which n R.one.kind s h) [ inl old ↦ run.clean s old | inr e ↦ subst (λ x. test x R.other ≡ true) (sym e.1) (taken e.0) ];
          seen_there = λ b i l. omega (arith, run.seen_there b i l);
          seen = λ b i l. subst (HasPaper (one_of R) (two_of R) R.depth b (mark_at (minimal_at R.seen b) i).set) (sym (paper_before _ (run.seen_there b i l))) (run.seen b i l);
        }
      where
        sized : (b : ℕ) → b < 4 → length (found_at (added T a t n).found b).nodes ≡ 16
        sized b l =
            elim (cases_eq b a) [
              | inl e ↦
                  subst (λ x. length (found_at (added T a t n).found x).nodes ≡ 16) (sym e)
                  (ap (λ f. length f.nodes) (found_here T.found a t T.count inside) ∙ length-set (found_at T.found a).nodes t T.count ∙ run.rooms.2 a here)
              | inr ne ↦ ap (λ f. length f.nodes) (found_other T.found a t T.count inside b ne) ∙ run.rooms.2 b l
            ]

        there_new : (b s : ℕ) → b ≡ a → s ≡ t → node_of (added T a t n) b s < T.count + 1
        there_new b s p q =
            subst (λ x. node_of (added T a t n) x s < T.count + 1) (sym p)
            (subst (λ x. node_of (added T a t n) a x < T.count + 1) (sym q) (omega (arith, node_new n)))

        papers : (b s : ℕ) → Marked (added T a t n) b s →
            HasPaper (one_of R) (two_of R) (suc R.depth) b s (paper_of (added T a t n) (node_of (added T a t n) b s))
        papers b s h = go (marked_which n b s h)
          where
            go : Marked T b s ⊎ ((b ≡ a) × (s ≡ t)) → HasPaper (one_of R) (two_of R) (suc R.depth) b s (paper_of (added T a t n) (node_of (added T a t n) b s))
            go (inl old) =
                subst (HasPaper (one_of R) (two_of R) (suc R.depth) b s)
                (sym (ap (paper_of (added T a t n)) (node_kept n b s old) ∙ paper_before (node_of T b s) (run.there b s old))) (run.papers b s old)
            go (inr e) =
                subst (λ x. HasPaper (one_of R) (two_of R) (suc R.depth) x s (paper_of (added T a t n) (node_of (added T a t n) x s))) (sym e.0)
                (subst (λ x. HasPaper (one_of R) (two_of R) (suc R.depth) a x (paper_of (added T a t n) (node_of (added T a t n) a x))) (sym e.1)
                (subst (HasPaper (one_of R) (two_of R) (suc R.depth) a t) (sym (ap (paper_of (added T a t n)) (node_new n) ∙ paper_last)) paper))

        taken : R.one.kind ≡ a → test t R.other ≡ true
        taken e =
            elim (and_cases (eqb a R.one.kind) (not (test t R.other)) asked) [
              | inl off ↦ absurd (both_ways (eqb a R.one.kind) off (eq-eqb a R.one.kind (sym e)))
              | inr on ↦ not-false (test t R.other) on
            ]

    -- It is one that is asked for.
    stops : (eqb a R.one.kind && not (test t R.other)) ≡ true → Stopped R (added T a t n)
    stops asked =
        let parts = and_parts (eqb a R.one.kind) (not (test t R.other)) asked in
        let last : paper_of (added T a t n) (T.count + 1 - 1) ≡ node_paper (papers_of T) n = ap (paper_of (added T a t n)) (omega arith) ∙ paper_last in
        record {
          room = length-set T.nodes T.count n ∙ run.rooms.0;
          some = omega arith;
          few = omega (arith, room_left);
          names = names_earlier;
          last = subst (λ d. Rattle.pairs.specs.Laws.Against (one_of R) R.one.kind (two_of R) R.other d) (sym last)
              (record {
                well_made = paper.well_made;
                taken = subst (λ x. Rattle.taking.specs.Takes.takes (node_paper (papers_of T) n) (one_of R) x ≡ true) (eqb-true a R.one.kind parts.0) paper.taken;
                not_taken = sym (test_kinds (two_of R) (node_paper (papers_of T) n) R.other) ∙ ap (λ x. test x R.other) paper.exactly ∙ not-true (test t R.other) parts.1;
              });
          flat = subst (λ d. Rattle.papers.specs.Paper.deep d ≤ suc R.depth) (sym last) paper.flat;
        }

    pub tried : (r : Bool) → r ≡ (eqb a R.one.kind && not (test t R.other)) → Tried R T (added T a t n) (MarkedAt a t) r
    tried true e = stops (sym e)
    tried false e =
        (goes_on (sym e), record { more = omega arith; kept = marked_kept n; still = λ q. absurd (omega arith) }, marked_new n)

-- A table of these parts is the table added to.
pub added_is : (T U : Table) (a t : ℕ) (n : Node) → U.count ≡ T.count + 1 → U.nodes ≡ set T.nodes T.count n →
    U.found ≡ set T.found a (with_set (found_at T.found a) t T.count) → added T a t n ≡ U
added_is T U a t n c ns fs = λ i. record { count = sym c i; nodes = sym ns i; found = sym fs i }
