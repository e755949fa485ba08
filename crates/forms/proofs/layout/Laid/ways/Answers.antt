use Rattle.std.proofs.Common.{◌≡◌, ℕ, Bor, Option, None, Some, MatchOption, List, [], ap, ◌-◌, ◌*◌, ◌<◌, ◌≤◌, ◌∙◌, length, get_or, take, drop, inl, inr, arith}
use Rattle.std.proofs.lemmas.List.{get_or-take}
use Rattle.std.specs.Slice.{IsGetRangeResult}
use Rattle.forms.specs.Layout.{room_ways, ways_count, block_length, kind_start, way_start}
use Rattle.forms.proofs.layout.Laid.ways.Goals as goal

-- The first n of a list, if it has so many.
first_of : (xs : List (List ℕ)) (room n : ℕ) (at : ℕ → List ℕ) (r : Option (Bor (List (List ℕ)))) → length xs ≡ room →
    ((w : ℕ) → w < room → get_or xs w [] ≡ at w) → IsGetRangeResult xs 0 n r →
    MatchOption r (room < n) (λ ways. (length ways.now ≡ n) × (length ways.now ≤ room) × ((w : ℕ) → w < length ways.now → get_or ways.now w [] ≡ at w))
first_of xs room n at None l cut h = elim h.0 [ inl b ↦ absurd (omega arith) | inr b ↦ omega arith ]
first_of xs room n at (Some x) l cut h =
    let all : n - 0 ≡ n = omega arith in
    let same : x.now ≡ take n xs = rw (← all) h.0.2 in
    (omega arith, omega arith, λ w b. ap (λ ys. get_or ys w []) same ∙ (get_or-take n xs w [] (omega arith) ∙ cut w (omega arith)))

pub returns : goal.returns
unfolding kind_start
returns c =
    let v = c.args.self.now in
    let same : c.args.kind * c.block.result ≡ c.args.kind * block_length v.room = ap (λ (b : ℕ). c.args.kind * b) c.block.ensures in
    first_of _ (room_ways v.room) (ways_count v.room v.row.now c.args.kind) (λ w. take 16 (drop (way_start v.room c.args.kind w) v.row.now)) c.get.result c.room_for_ways.ensures.0 c.room_for_ways.ensures.1 (rw (← same) c.get.ensures.lookup)
