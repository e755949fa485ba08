use Rattle.std.proofs.Common.{◌≡◌, ℕ, List, length, ap, sym, subst, arith, rules}
use Rattle.forms.specs.declared.view.FormView.{FormView}
use Rattle.forms.specs.Layout.{room_kinds}
use Rattle.forms.proofs.Views.{WaysCut, view_kind, ways_given, view_ways}
use Rattle.forms.proofs.view.FormView.ways_of.Goals as goal

-- What is handed on, if it is as many ways as the row gave.
handed_on : (v : FormView) (k : ℕ) (given ways : List (List ℕ)) → WaysCut v k given → length ways ≡ length given →
    (length ways ≡ length given → ways ≡ given) → WaysCut v k ways
handed_on v k given ways w long same = subst (WaysCut v k) (sym (same long)) w

pub ways-requires : goal.ways-requires
ways-requires c =
    let k = view_kind c.args.self.now c.args.kind c.requires in
    omega (arith, ap room_kinds c.laid.ensures.room)

pub unwrap-ways-requires : goal.unwrap-ways-requires
unwrap-ways-requires c = ways_given c.args.self.now _ _ c.args.kind _ c.requires c.laid.ensures.row c.laid.ensures.room c.ways.ensures

pub invariant_of-result : goal.invariant_of-result
invariant_of-result c =
    let w = view_ways c.args.self.now _ _ c.args.kind _ _ c.requires c.laid.ensures.row c.laid.ensures.room c.ways.ensures c.unwrap-ways.ensures in
    record { fit = (handed_on c.args.self.now c.args.kind c.unwrap-ways.result.now _ w (omega arith) (λ e. search rules)).fit }

pub returns : goal.returns
returns c =
    let w = view_ways c.args.self.now _ _ c.args.kind _ _ c.requires c.laid.ensures.row c.laid.ensures.room c.ways.ensures c.unwrap-ways.ensures in
    record { is = (handed_on c.args.self.now c.args.kind c.unwrap-ways.result.now _ w (omega arith) (λ e. search rules)).are }
