use Rattle.std.proofs.Common.{arith}
use Rattle.papers.specs.Paper.{deep}
use Rattle.papers.proofs.Answering.{row_stands, turned_away}
use Rattle.papers.proofs.entry.read.Goals as goal

pub returns-in-Ok : goal.returns-in-Ok
returns-in-Ok c = row_stands deep c.args.row.now c.in-Ok.paper.value c.in-Ok.paper.rest.now c.in-Ok.ensures

pub returns-in-Err : goal.returns-in-Err
returns-in-Err c =
    let h = c.in-Err.ensures in
    turned_away deep c.args.row.now c.in-Err.fault.why h.0 c.in-Err.fault.left c.refusal.result h.1 h.2 c.refusal.ensures.number (omega (arith, c.refusal.ensures.place))
