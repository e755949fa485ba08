use Rattle.std.proofs.Common.{true, false, arith}
use Rattle.papers.proofs.Answering.{turned_away}
use Rattle.taking.specs.Masks.{kinds_of}
use Rattle.taking.specs.Sorted.{sorted_of}
use Rattle.taking.proofs.Answering.{row_taken, no_such_kind}
use Rattle.taking.proofs.entry.take_as.Goals as goal
use Rattle.taking.proofs.entry.take_as.Goals.{else-kind-kinds-via-then-kind-kinds+else-holds, else-kind-kinds-via-else-kind-kinds}

pub returns-in-Err : goal.returns-in-Err
returns-in-Err c =
    let h = c.in-Err.ensures in
    turned_away (kinds_of (sorted_of c.args.form.now)) c.args.row.now c.in-Err.fault.why h.0 c.in-Err.fault.left c.refusal.result h.1 h.2 c.refusal.ensures.number (omega (arith, c.refusal.ensures.place))

pub returns-then-holds : goal.returns-then-holds
returns-then-holds c =
    row_taken (sorted_of c.args.form.now) c.args.row.now c.args.kind c.in-Ok.paper.value c.in-Ok.paper.rest.now true c.in-Ok.ensures c.if-holds.ensures

pub returns-else-kind-kinds : goal.returns-else-kind-kinds
returns-else-kind-kinds c =
    let f = sorted_of c.args.form.now in
    elim c.else-kind-kinds.branch [
      | else-kind-kinds-via-then-kind-kinds+else-holds w ↦
          row_taken f c.args.row.now c.args.kind c.in-Ok.paper.value c.in-Ok.paper.rest.now false c.in-Ok.ensures w.if-holds.ensures
      | else-kind-kinds-via-else-kind-kinds w ↦
          no_such_kind f c.args.row.now c.args.kind c.in-Ok.paper.value c.in-Ok.paper.rest.now c.in-Ok.ensures (omega (arith, c.kinds.ensures.is, w.if-kind-kinds.false))
    ]
