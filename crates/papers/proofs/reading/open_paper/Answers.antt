use Rattle.std.proofs.Common.{arith, rules}
use Rattle.papers.proofs.Steps.{paper_ends, paper_unknown, paper_too_deep, known_shape, begins_with, fails_at}
use Rattle.papers.proofs.reading.open_paper.Goals as goal

pub returns-in_default : goal.returns-in_default
returns-in_default c = fails_at c.args.row.now c.at.result (cc) (paper_ends c.args.levels c.args.row.now (search rules))

pub returns-in_default-try_from : goal.returns-in_default-try_from
returns-in_default-try_from c =
    fails_at c.args.row.now c.at-in_default-try_from.result (cc)
    (paper_unknown c.args.levels c.args.row.now (search rules) c.in_default-try_from.ensures)

pub returns-in_default-checked_sub : goal.returns-in_default-checked_sub
returns-in_default-checked_sub c =
    fails_at c.args.row.now c.at-in_default-checked_sub.result (cc)
    (paper_too_deep c.args.levels c.args.row.now (omega (arith, c.in_default-checked_sub.ensures)) (search rules) (known_shape _ c.in-Ok.shape c.in-Ok.ensures))

pub returns : goal.returns
returns c =
    let h = c.in-Some.ensures in
    (omega (arith, h.0, h.1), begins_with _ c.args.row.now (search rules) c.in-Ok.ensures)
