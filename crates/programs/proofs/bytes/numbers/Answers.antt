use Rattle.std.proofs.Common.{rules}
use Rattle.std.proofs.lemmas.Iterator.{items_from_collect, YieldsList-from_map, YieldsList-from_slice}
use Rattle.programs.proofs.Steps.{value, chunks_numbers}
use Rattle.programs.proofs.bytes.numbers.Goals as goal

pub returns-clause-is : goal.returns-clause-is
returns-clause-is c =
    rw (← chunks_numbers c.args.bytes.now)
    (items_from_collect _ c.collect.ensures.ran (YieldsList-from_map _ value (YieldsList-from_slice _ cc) c.map.ensures.closure (λ x r q k. search rules)))
