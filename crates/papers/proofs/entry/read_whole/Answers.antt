use Rattle.std.proofs.Common.{rules}
use Rattle.papers.proofs.Steps.{hands_on, fails_at}
use Rattle.papers.proofs.Answering.{whole_fails, whole_behind, whole_alone}
use Rattle.papers.proofs.entry.read_whole.Goals as goal

pub returns-in_err-paper : goal.returns-in_err-paper
returns-in_err-paper g c =
    hands_on _ c.from_residual.ensures.1 c.in_err-paper.ensures (whole_fails (g.F.Fold.of c.args.fold.now) c.args.row.now)

pub returns-in_default : goal.returns-in_default
returns-in_default g c =
    fails_at c.in_ok-paper.paper.rest.now c.at.result (cc)
    (whole_behind _ c.args.row.now c.in_ok-paper.paper.value c.in_ok-paper.paper.rest.now c.in_ok-paper.ensures (search rules))

pub returns : goal.returns
returns g c = whole_alone _ c.args.row.now c.in_ok-paper.paper.value c.in_ok-paper.paper.rest.now c.in_ok-paper.ensures (search rules)
