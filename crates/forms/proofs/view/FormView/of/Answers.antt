use Rattle.std.proofs.Common.{◌≡◌, true, arith}
use Rattle.forms.specs.Fits.{form_fits}
use Rattle.forms.proofs.Fitting.{uncounted, misfit, all_fit}
use Rattle.forms.proofs.view.FormView.of.Goals as goal

pub returns-in_default-clause-fault : goal.returns-in_default-clause-fault
returns-in_default-clause-fault c = uncounted c.args.room c.args.row.now c.kinds.result c.in_default.ensures (omega arith)

pub returns-in-Some-first_misfit-clause-fault : goal.returns-in-Some-first_misfit-clause-fault
returns-in-Some-first_misfit-clause-fault c =
    let h = c.in-Some.ensures in
    let f = c.in-Some-first_misfit.ensures in
    let laid = c.in-Some.laid in
    rw (← h.1, ← h.2) (misfit laid.room laid.row.now c.in-Some-first_misfit.kind _ (rw (h.1, h.2) h.0) (omega arith) f.0 f.1 f.2)

pub new-requires : goal.new-requires
new-requires c =
    let h = c.in-Some.ensures in
    let laid = c.in-Some.laid in
    let fits : form_fits laid.room laid.row.now ≡ true = all_fit laid.room laid.row.now (rw (h.1, h.2) h.0) c.in-None.ensures in
    cc (fits, h.1, h.2)
