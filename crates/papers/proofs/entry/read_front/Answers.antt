use Rattle.std.proofs.Common.{arith}
use Rattle.papers.proofs.Answering.{front_told}
use Rattle.papers.proofs.entry.read_front.Goals as goal

pub returns : goal.returns
returns c = front_told c.args.levels _ c.args.row.now c.read_paper.result c.read_paper.ensures (omega arith)
