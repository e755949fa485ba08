use Rattle.std.proofs.Common.{◌^◌, length, sym, ap, ◌∙◌, arith}
use lib.Bits.{bit_or}
use Rattle.taking.specs.Groups.{entry, kind_sees, kinds_seen}
use Rattle.taking.specs.Masks.{mask}
use Rattle.taking.specs.Sorted.{sorted_of, shaped_of}
use Rattle.taking.proofs.Rooms.{kinds_few}
use Rattle.taking.proofs.Sights.{none_sees, way_sees, way_blind}
use Rattle.taking.proofs.sorted.SortedForm.kinds_seen.Goals as goal
use Rattle.taking.proofs.sorted.SortedForm.kinds_seen.Goals.{then-seen_by, else-seen_by}

pub loop-index-init : goal.loop-index-init
loop-index-init g c = none_sees (g.S.Seen.sees c.args.seen.now) (sorted_of c.args.self.now) c.ways-at-items.result.now

pub with-kinds-requires : goal.with-kinds-requires
with-kinds-requires g c = omega (arith, kinds_few c.args.self.now.form, c.ways-at-items.ensures.all.kind c.loop-index.index c.loop-index-test.true)

pub loop-index-preserved : goal.loop-index-preserved
loop-index-preserved g c =
    let f = sorted_of c.args.self.now in
    let sees = g.S.Seen.sees c.args.seen.now in
    let ws = c.ways-at-items.result.now in
    let i = c.loop-index.index in
    let seen = ap (λ w. sees w i) (sym c.way.ensures.is) ∙ sym c.seen_by.ensures in
    elim c.if-seen_by.branch [
      | then-seen_by w ↦
          w.kinds-is ∙ w.with-kinds.ensures ∙ ap (λ m. bit_or m (2 ^ (entry ws i).kind)) c.loop-index.invariant
          ∙ way_sees sees f ws i (c.ways-at-items.ensures.all.kind i c.loop-index-test.true) (seen ∙ w.if-seen_by.true)
      | else-seen_by w ↦ w.kinds-is ∙ c.loop-index.invariant ∙ way_blind sees f ws i (seen ∙ w.if-seen_by.false)
    ]

pub returns : goal.returns
unfolding kinds_seen
returns g c =
    let f = sorted_of c.args.self.now in
    let sees = g.S.Seen.sees c.args.seen.now in
    c.loop-index.invariant ∙ ap (λ n. mask (kind_sees sees f c.ways-at-items.result.now n) (length f)) (omega arith)
    ∙ ap (kinds_seen sees f) (c.ways-at-items.ensures.is ∙ ap (λ s. shaped_of s c.args.self.now) c.SHAPE.ensures)
