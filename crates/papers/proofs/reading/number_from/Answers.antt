use Rattle.std.proofs.Common.{arith, rules}
use Rattle.papers.proofs.Steps.{number_ends, number_wrong, number_right, fails_at}
use Rattle.papers.proofs.reading.number_from.Goals as goal

pub returns-in_default : goal.returns-in_default
returns-in_default c = fails_at c.args.row.now c.at.result (cc) (number_ends c.args.low c.args.row.now (search rules))

pub returns-in_default-within : goal.returns-in_default-within
returns-in_default-within c =
    fails_at c.args.row.now c.at-in_default-within.result (cc) (number_wrong c.args.low c.args.row.now (search rules) (search rules))

pub returns : goal.returns
returns c =
    let h = c.in-Some.ensures in
    number_right c.args.low c.in-Some.value c.args.row.now (search rules) (omega (arith, h.0)) (omega (arith, h.0, h.1)) (omega (arith, h.0, h.2))
