use Rattle.std.proofs.Common.{◌-◌, take, arith}
use Rattle.take_papers.proofs.Held.{read_on, read_none}
use Rattle.take_papers.proofs.block.Block.read_more.Goals as goal

pub returns-in_err-count-clause-more : goal.returns-in_err-count-clause-more
returns-in_err-count-clause-more g c =
    let block = c.self.inside in
    rw (← c.self.view_is) (read_none block.bytes c.read.new.buf block.start block.end (65536 - block.end) (omega arith) (omega arith))

pub returns-clause-more : goal.returns-clause-more
returns-clause-more g c =
    let block = c.self.inside in
    let n = c.in_ok-count.count in
    rw (← c.self.view_is) (take n c.read.new.buf, read_on block.bytes c.read.new.buf block.start block.end (65536 - block.end) n (omega arith) (omega arith) c.in_ok-count.ensures.bound.0)
