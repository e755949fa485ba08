use Rattle.std.proofs.Common.{◌≡◌, None, length, get_or, sym, subst, arith, rules}
use Rattle.forms.specs.Form.{places_of}
use Rattle.forms.specs.View.{way_of}
use Rattle.taking.specs.Advance.{Advances}
use Rattle.taking.specs.Sorted.{sorted_of}
use Rattle.taking.proofs.Advancing.{one_advanced}
use Rattle.taking.proofs.progress.Records.advance.Goals as goal

pub loop-index-preserved : goal.loop-index-preserved
loop-index-preserved c =
    let sized : length c.loop-index.self.ways ≡ 144 = search rules in
    let now = get_or c.loop-index.self.ways c.loop-index.index None in
    let taken : Advances c.args.field.name c.args.field.kinds (places_of (way_of c.way-way.result)) now c.advanced.result = search rules in
    one_advanced (sorted_of c.args.form.now) c.ways-at-items.result.now c.args.field.name c.args.field.kinds c.loop-index.index c.args.self.now.ways c.loop-index.self.ways c.advanced.result
    (omega (arith, c.ways-at-items.ensures.all.few)) c.loop-index.invariant
    (subst (λ w. Advances c.args.field.name c.args.field.kinds (places_of w) now c.advanced.result) c.way-way.ensures.is taken)

pub returns : goal.returns
returns c = rw (sym c.ways-at-items.ensures.is) (λ i l. c.loop-index.invariant.done i (omega arith))
