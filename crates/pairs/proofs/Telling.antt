-- The papers of nodes, one node more.
use Rattle.std.proofs.Common.{◌≡◌, ℕ, ◌+◌, ◌<◌, List, [], ◌∷◌, ◌++◌, length, get_or, take, set, refl, ap, ◌∙◌, arith}
use Rattle.std.proofs.lemmas.List.{length_push, length-take-le, take_more_set, get_or_append_left, get_or_push}
use Rattle.papers.specs.Paper.{Paper, num}
use Rattle.pairs.specs.declared.node.Node.{Node}
use Rattle.pairs.specs.Nodes.{node_paper, told_onto, told, Appending}

onto_push : (ds : List Paper) (ns : List Node) (n : Node) → told_onto ds (ns ++ n ∷ []) ≡ told_onto ds ns ++ node_paper (told_onto ds ns) n ∷ []
unfolding told_onto
onto_push ds [] n = refl
onto_push ds (m ∷ ns) n = onto_push (ds ++ node_paper ds m ∷ []) ns n

pub appending : Appending
appending ns n = onto_push [] ns n

onto_length : (ds : List Paper) (ns : List Node) → length (told_onto ds ns) ≡ length ds + length ns
unfolding told_onto
onto_length ds [] = omega arith
onto_length ds (n ∷ ns) = onto_length (ds ++ node_paper ds n ∷ []) ns ∙ omega (arith, length_push ds (node_paper ds n))

pub told_length : (ns : List Node) → length (told ns) ≡ length ns
told_length ns = onto_length [] ns ∙ omega arith

-- The nodes at the front of an array, with one put behind them.
module _ (ns : List Node) (i : ℕ) (n : Node) (room : i < length ns) where
  pub told_more : told (take (i + 1) (set ns i n)) ≡ told (take i ns) ++ node_paper (told (take i ns)) n ∷ []
  told_more = ap told (take_more_set ns i n room) ∙ appending (take i ns) n

  told_count : length (told (take i ns)) ≡ i
  told_count = told_length (take i ns) ∙ length-take-le i ns (omega arith)

  pub told_before : (k : ℕ) → k < i → get_or (told (take (i + 1) (set ns i n))) k (num 0) ≡ get_or (told (take i ns)) k (num 0)
  told_before k l =
      ap (λ ds. get_or ds k (num 0)) told_more
      ∙ get_or_append_left (told (take i ns)) (node_paper (told (take i ns)) n ∷ []) (num 0) k (omega (arith, told_count))

  pub told_last : get_or (told (take (i + 1) (set ns i n))) i (num 0) ≡ node_paper (told (take i ns)) n
  told_last = ap (λ ds. get_or ds i (num 0)) told_more ∙ get_or_push (told (take i ns)) (node_paper (told (take i ns)) n) (num 0) i told_count
