use Rattle.std.proofs.Common.{◌≡◌, suc, ◌+◌, ◌-◌, length, refl, ap, ◌∙◌, arith, rules}
use Rattle.papers.specs.Paper.{num}
use Rattle.papers.specs.Reading.{done, into}
use Rattle.papers.proofs.Steps.{hands_on, number_shortens, name_below, opens_number, opens_list, opens_record}
use Rattle.papers.proofs.Loops.{list_begins, list_none, list_goes_on, list_fails, list_ends, record_begins, record_none, record_goes_on, name_fails, field_fails, record_ends}
use Rattle.papers.proofs.Depths.{list_room, record_room}
use Rattle.papers.proofs.reading.+reading.Goals as goal

pub read_list-returns-in_err-count : goal.read_list-returns-in_err-count
read_list-returns-in_err-count g t c = hands_on _ c.from_residual.ensures.1 c.in_err-count.ensures (list_none _ _ _)

pub read_list-loop-init : goal.read_list-loop-init
read_list-loop-init g t c = list_begins (omega arith) c.in_ok-count.ensures c.no_papers-papers.ensures

pub read_list-returns-in_err-paper : goal.read_list-returns-in_err-paper
read_list-returns-in_err-paper g t c =
    hands_on _ c.from_residual-in_err-paper.ensures.1 c.in_err-paper.ensures
    (list_fails (g.F.Fold.of c.args.fold.now) (c.in_ok-count.count.value - (c.loop.counter + 1)) (omega arith) c.loop.invariant)

pub read_list-loop-preserved : goal.read_list-loop-preserved
read_list-loop-preserved g t c = list_goes_on (omega arith) (c.with_paper-papers.ensures c.loop.counter) c.loop.invariant c.in_ok-paper.ensures

pub read_list-list-requires : goal.read_list-list-requires
read_list-list-requires g t c =
    let read : c.loop.counter ≡ c.in_ok-count.count.value = omega arith in
    list_room (g.F.Fold.of c.args.fold.now) (g.F.Fold.has_room c.args.fold.now) (g.met.F.Fold.room c.args.fold.now) _ _ (omega arith) (list_ends (omega arith) (cc) c.loop.invariant)

pub read_list-returns : goal.read_list-returns
read_list-returns g t c =
    let read : c.loop.counter ≡ c.in_ok-count.count.value = omega arith in
    list_ends (omega arith) (cc) c.loop.invariant

pub read_paper-returns-in_err-number-in-Number : goal.read_paper-returns-in_err-number-in-Number
read_paper-returns-in_err-number-in-Number g t c =
    hands_on _ c.from_residual-in_err-number-in-Number.ensures.1 c.in_err-number-in-Number.ensures
    (λ w left e. opens_number _ c.in_ok-opening.ensures c.in-Number.is ∙ ap (into (λ v. g.F.Fold.of c.args.fold.now (num v))) e)

pub read_paper-returns-in_err-list-in-List : goal.read_paper-returns-in_err-list-in-List
read_paper-returns-in_err-list-in-List g t c =
    hands_on _ c.from_residual-in_err-list-in-List.ensures.1 c.in_err-list-in-List.ensures
    (λ w left e. opens_list _ c.in_ok-opening.ensures c.in-List.is ∙ e)

pub read_paper-returns-in_err-record-in-Record : goal.read_paper-returns-in_err-record-in-Record
read_paper-returns-in_err-record-in-Record g t c =
    hands_on _ c.from_residual-in_err-record-in-Record.ensures.1 c.in_err-record-in-Record.ensures
    (λ w left e. opens_record _ c.in_ok-opening.ensures c.in-Record.is ∙ e)

pub read_paper-returns-in_ok-number-in-Number : goal.read_paper-returns-in_ok-number-in-Number
read_paper-returns-in_ok-number-in-Number g t c =
    opens_number _ c.in_ok-opening.ensures c.in-Number.is ∙ ap (into (λ v. g.F.Fold.of c.args.fold.now (num v))) c.in_ok-number-in-Number.ensures
    ∙ ap (λ x. done x c.in_ok-number-in-Number.number.rest.now) (cc)

pub read_paper-returns-in_ok-list-in-List : goal.read_paper-returns-in_ok-list-in-List
read_paper-returns-in_ok-list-in-List g t c = opens_list _ c.in_ok-opening.ensures c.in-List.is ∙ c.in_ok-list-in-List.ensures

pub read_paper-returns-in_ok-record-in-Record : goal.read_paper-returns-in_ok-record-in-Record
read_paper-returns-in_ok-record-in-Record g t c = opens_record _ c.in_ok-opening.ensures c.in-Record.is ∙ c.in_ok-record-in-Record.ensures

pub read_record-returns-in_err-count : goal.read_record-returns-in_err-count
read_record-returns-in_err-count g t c = hands_on _ c.from_residual.ensures.1 c.in_err-count.ensures (record_none _ _ _)

pub read_record-loop-init : goal.read_record-loop-init
read_record-loop-init g t c = record_begins (omega arith) c.in_ok-count.ensures c.no_fields-so_far.ensures

pub read_record-returns-in_err-name : goal.read_record-returns-in_err-name
read_record-returns-in_err-name g t c =
    hands_on _ c.from_residual-in_err-name.ensures.1 c.in_err-name.ensures
    (name_fails (c.in_ok-count.count.value - (c.loop.counter + 1)) (omega arith) c.loop.invariant)

pub read_record-read_paper-requires : goal.read_record-read_paper-requires
read_record-read_paper-requires g t c =
    let h : suc (length c.in_ok-name.name.rest.now) ≡ length c.loop.rest.now = number_shortens _ _ c.in_ok-name.ensures in
    search rules

pub read_record-returns-in_err-inner : goal.read_record-returns-in_err-inner
read_record-returns-in_err-inner g t c =
    hands_on _ c.from_residual-in_err-inner.ensures.1 c.in_err-inner.ensures
    (field_fails (g.F.Fold.of c.args.fold.now) (c.in_ok-count.count.value - (c.loop.counter + 1)) (omega arith) c.loop.invariant c.in_ok-name.ensures)

pub read_record-overflow_add-low : goal.read_record-overflow_add-low
read_record-overflow_add-low g t c = omega (arith, name_below _ _ c.in_ok-name.ensures)

pub read_record-loop-preserved : goal.read_record-loop-preserved
read_record-loop-preserved g t c = record_goes_on (omega arith) (omega arith) c.with_field.ensures c.loop.invariant c.in_ok-name.ensures c.in_ok-inner.ensures

pub read_record-record-requires : goal.read_record-record-requires
read_record-record-requires g t c =
    record_room (g.F.Fold.of c.args.fold.now) (g.F.Fold.has_room c.args.fold.now) (g.met.F.Fold.room c.args.fold.now) _ _ (omega arith) (record_ends (omega arith) refl c.loop.invariant)

pub read_record-returns : goal.read_record-returns
read_record-returns g t c = record_ends (omega arith) (cc) c.loop.invariant
