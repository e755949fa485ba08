use Rattle.std.proofs.Common.{◌≡◌, ℕ, [], ap, ◌+◌, ◌-◌, ◌*◌, ◌<◌, length, get_or, take, drop, arith, length-drop}
use Rattle.std.proofs.lemmas.List.{length-take-le}
use Rattle.forms.specs.Layout.{room_ways, block_length, kind_start, way_start}
use Rattle.forms.proofs.Chunks.{part_chunk}
use Rattle.forms.proofs.Offsets.{kind_within}
use Rattle.forms.proofs.layout.Laid.room_for_ways.Goals as goal

pub returns : goal.returns
unfolding kind_start way_start
returns c =
    let v = c.args.self.now in
    let row = v.row.now in
    let at = 1 + c.args.kind * c.block-block.result + 1 in
    let m = 1 + c.args.kind * c.block-block.result + c.block-block.result - at in
    let same : c.args.kind * c.block-block.result ≡ c.args.kind * block_length v.room = ap (λ (b : ℕ). c.args.kind * b) c.block-block.ensures in
    let inside = kind_within v.room c.args.kind c.requires in
    let l : length (take m (drop at row)) ≡ m = length-take-le m (drop at row) (omega (arith, length-drop at row)) in
    let n : m ≡ 16 * room_ways v.room = omega arith in
    let cut : (w : ℕ) → w < room_ways v.room → get_or c.as_chunks.result.0.now w [] ≡ take 16 (drop (way_start v.room c.args.kind w) row) =
    λ w h. rw c.as_chunks.ensures.front (part_chunk 16 _ m at row w (way_start v.room c.args.kind w) [] (omega arith) (omega arith) (omega arith)) in
    (omega arith, cut)
