use Rattle.take_papers.proofs.Held.{skipped}
use Rattle.take_papers.proofs.block.Block.skip.Goals as goal

pub returns : goal.returns
returns c =
    let block = c.self.inside in
    rw (← c.self.view_is) (skipped block.bytes block.start block.end c.args.count)
