use Rattle.std.proofs.Common.{arith}
use Rattle.take_papers.proofs.Coming.{counted_some, paper_came}
use Rattle.take_papers.proofs.stream.Papers.next_into.Goals as goal

pub returns : goal.returns
returns g c =
    let begun = c.fill.new.self.bytes in
    let lent = c.held-held.result.now in
    let n = c.in-Some.count in
    let told = counted_some c.held.result.now begun c.in_ok-count.field-0 n c.held.ensures c.in-Some.is c.in_ok-count.ensures in
    paper_came c.args.self.now.block.bytes begun c.fill-2.new.self.bytes lent c.skip.new.self.bytes c.args.row.now c.numbers_into.new.row n c.numbers_into.result c.skip.ensures (omega arith) c.held-held.ensures c.fill.ensures c.fill-2.ensures told.0 told.1 told.2
    (omega arith)
    (omega arith)
    c.numbers_into.ensures.count
    c.numbers_into.ensures.row
