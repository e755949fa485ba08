use Rattle.std.proofs.Common.{◌≡◌, ◌<◌, [], length, get_or, map, take, ap, sym, ◌∙◌, arith}
use Rattle.std.proofs.lemmas.List.{get_or-map, get_or-take, length-take}
use Rattle.programs.specs.Bytes.{numbers_in}
use Rattle.programs.proofs.Steps.{value, chunks_numbers, numbers_length, one_written}
use Rattle.programs.proofs.bytes.numbers_into.Goals as goal

pub loop-i-preserved : goal.loop-i-preserved
loop-i-preserved c =
    let bytes = c.args.bytes.now in
    let fours = c.as_chunks.result.0.now in
    let i = c.loop-i.i in
    let in-count : i < c.min-count.result = omega (arith, length-take c.min-count.result fours) in
    let four-there : i < length fours = omega arith in
    let value-is : c.number.result ≡ value (get_or (take c.min-count.result fours) i []) = omega (arith, c.number.ensures) in
    let number-is : value (get_or (take c.min-count.result fours) i []) ≡ get_or (numbers_in bytes) i 0 =
    ap value (get_or-take c.min-count.result fours i [] in-count) ∙ sym (get_or-map value fours i [] 0 four-there)
    ∙ ap (λ l. get_or (map value l) i 0) c.as_chunks.ensures.front ∙ ap (λ l. get_or l i 0) (chunks_numbers bytes) in
    one_written (numbers_in bytes) c.args.row.now c.loop-i.row i c.number.result c.loop-i.invariant (omega (arith, numbers_length bytes)) (omega arith) (value-is ∙ number-is)
