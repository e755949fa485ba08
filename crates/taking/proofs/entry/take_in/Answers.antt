use Rattle.std.proofs.Common.{ap, ◌∙◌, subst, rules}
use Rattle.forms.specs.Layout.{form_in}
use Rattle.forms.specs.View.{form_of}
use Rattle.taking.specs.Answers.{Answered}
use Rattle.taking.proofs.Answering.{answered, kind_asked, refused_asked}
use Rattle.taking.proofs.entry.take_in.Goals as goal

pub returns-in-Ok : goal.returns-in-Ok
returns-in-Ok c =
    let h = c.in-Ok.ensures in
    let says : Answered (form_of c.new.result.form) c.args.row.now c.in-Ok.asked.kind c.take_as.result = search rules in
    answered c.args.room c.args.form.now c.args.row.now c.args.k c.in-Ok.asked.kind c.take_as.result
    (kind_asked c.args.room c.args.form.now c.args.k c.in-Ok.asked.kind h.is) h.fits
    (subst (λ f. Answered f c.args.row.now c.in-Ok.asked.kind c.take_as.result) (ap form_of c.new.ensures ∙ (λ i. form_in (h.room i) (h.row i).now)) says)

pub returns-in-Err : goal.returns-in-Err
returns-in-Err c =
    let h = c.in-Err.ensures in
    refused_asked c.args.room c.args.form.now c.args.row.now c.args.k c.in-Err.refusal h.is h.fault
