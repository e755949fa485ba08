use Rattle.std.proofs.Common.{◌≡◌, ◌+◌, ◌*◌, [], length, take, drop, arith, length-drop}
use Rattle.std.proofs.lemmas.List.{length-take-le}
use Rattle.forms.proofs.Chunks.{part_chunk}
use Rattle.forms.proofs.layout.places.Goals as goal

pub returns-clause-places : goal.returns-clause-places
returns-clause-places c =
    let way = c.args.way.now in
    let l : length (take 12 (drop 4 way)) ≡ 12 = length-take-le 12 (drop 4 way) (omega (arith, length-drop 4 way)) in
    λ i h. rw c.as_chunks.ensures.front (part_chunk 3 _ 12 4 way i (4 + 3 * i) [] (omega arith) (omega arith) (omega arith))
