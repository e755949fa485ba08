use Rattle.std.proofs.Common.{◌≡◌, ◌++◌, ◌∷◌, [], length, length-append, sym, ap, ◌∙◌, arith, rules}
use denote.Enum.Bare.{same_true, same_false}
use Rattle.papers.specs.contracts.shape.Shape.{the_type}
use Rattle.forms.specs.Form.{shape, shape_of, ways_at, way_at}
use Rattle.forms.specs.View.{form_of}
use Rattle.taking.specs.Groups.{shape_taken}
use Rattle.taking.specs.Listing.{ways_of}
use Rattle.taking.proofs.Groups.{next_shown, none_shown, grouped_other, grouped_push, grouped_kind, grouped_all}
use Rattle.taking.proofs.Rooms.{kinds_few, ways_few}
use Rattle.taking.proofs.sorting.group_of.Goals as goal

pub overflow_cast-way : goal.overflow_cast-way
overflow_cast-way c =
    let s = next_shown c.args.form c.loop-kind.kind c.ways_of.ensures.is c.enumerate-way-items.ensures.source c.enumerate-way-items.ensures.count c.into_iter-way-iterator.ensures.into_iter_gives
    c.loop-way.yielded c.loop-way.way-iterator c.next.new.self (c.in-Some.way, c.in-Some.shown) c.loop-way.yielded_by c.next.ensures.steps c.in-Some.is in
    omega (arith, s.there, s.index, ways_few c.args.form c.loop-kind.kind (omega (arith, c.kinds-kind-end.ensures.is)))

pub push-requires : goal.push-requires
push-requires c =
    let s = next_shown c.args.form c.loop-kind.kind c.ways_of.ensures.is c.enumerate-way-items.ensures.source c.enumerate-way-items.ensures.count c.into_iter-way-iterator.ensures.into_iter_gives
    c.loop-way.yielded c.loop-way.way-iterator c.next.new.self (c.in-Some.way, c.in-Some.shown) c.loop-way.yielded_by c.next.ensures.steps c.in-Some.is in
    let few = ways_few c.args.form c.loop-kind.kind (omega (arith, c.kinds-kind-end.ensures.is)) in
    omega (arith, s.there, few, kinds_few c.args.form, c.kinds-kind-end.ensures.is, c.loop-way.invariant.few)

pub loop-way-preserved-then-eq : goal.loop-way-preserved-then-eq
loop-way-preserved-then-eq c =
    let f = form_of c.args.form in
    let k = c.loop-kind.kind in
    let n = length c.loop-way.yielded in
    let s = next_shown c.args.form k c.ways_of.ensures.is c.enumerate-way-items.ensures.source c.enumerate-way-items.ensures.count c.into_iter-way-iterator.ensures.into_iter_gives
    c.loop-way.yielded c.loop-way.way-iterator c.next.new.self (c.in-Some.way, c.in-Some.shown) c.loop-way.yielded_by c.next.ensures.steps c.in-Some.is in
    let is : c.shape.result ≡ shape_taken (way_at f k n) = c.shape.ensures ∙ ap shape_of (c.read.ensures.is ∙ ap shape s.way) in
    let shaped = sym is ∙ same_true the_type (search rules) _ _ (sym c.eq.ensures ∙ c.if-eq.true) in
    let pushed : ways_of c.push.new.self ≡ ways_of c.loop-way.group ++ record { kind = k; way = n } ∷ [] =
    c.push.ensures ∙ ap (λ w. ways_of c.loop-way.group ++ record { kind = k; way = w } ∷ []) s.index in
    rw (length-append c.loop-way.yielded ((c.in-Some.way, c.in-Some.shown) ∷ []), pushed)
    (grouped_push c.args.shape f k n (ways_of c.loop-way.group) c.loop-way.invariant (omega (arith, c.kinds-kind-end.ensures.is)) s.there shaped)

pub loop-way-preserved : goal.loop-way-preserved
loop-way-preserved c =
    let f = form_of c.args.form in
    let k = c.loop-kind.kind in
    let n = length c.loop-way.yielded in
    let s = next_shown c.args.form k c.ways_of.ensures.is c.enumerate-way-items.ensures.source c.enumerate-way-items.ensures.count c.into_iter-way-iterator.ensures.into_iter_gives
    c.loop-way.yielded c.loop-way.way-iterator c.next.new.self (c.in-Some.way, c.in-Some.shown) c.loop-way.yielded_by c.next.ensures.steps c.in-Some.is in
    let is : c.shape.result ≡ shape_taken (way_at f k n) = c.shape.ensures ∙ ap shape_of (c.read.ensures.is ∙ ap shape s.way) in
    rw (length-append c.loop-way.yielded ((c.in-Some.way, c.in-Some.shown) ∷ []))
    (grouped_other c.args.shape f k n (ways_of c.loop-way.group) c.loop-way.invariant (λ e. same_false the_type _ _ (sym c.eq.ensures ∙ c.if-eq.false) (is ∙ e)))

pub loop-kind-preserved : goal.loop-kind-preserved
loop-kind-preserved c =
    let f = form_of c.args.form in
    let k = c.loop-kind.kind in
    let n = length c.loop-way.yielded in
    let all : n ≡ length (ways_at f k) = none_shown c.args.form k c.ways_of.ensures.is c.enumerate-way-items.ensures.source c.enumerate-way-items.ensures.count c.into_iter-way-iterator.ensures.into_iter_gives
    c.loop-way.yielded c.loop-way.way-iterator c.next.new.self c.loop-way.yielded_by c.next.ensures.steps c.in-None.is in
    grouped_kind c.args.shape f k n (ways_of c.loop-way.group) c.loop-way.invariant all (omega (arith, all, ways_few c.args.form k (omega (arith, c.kinds-kind-end.ensures.is))))

pub returns : goal.returns
returns c =
    grouped_all c.args.shape (form_of c.args.form) c.loop-kind.kind (ways_of c.loop-kind.group) c.loop-kind.invariant (omega (arith, c.kinds-kind-end.ensures.is)) (kinds_few c.args.form)
