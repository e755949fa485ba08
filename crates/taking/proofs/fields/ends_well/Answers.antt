use Rattle.std.proofs.Common.{not, drop, sym, ap, ◌∙◌, rules, tests}
use Rattle.std.proofs.lemmas.Iterator.Adapters.{YieldsList-from_skip}
use Rattle.std.proofs.lemmas.Iterator.Consumers.{YieldsList-at, YieldsList-from_first}
use Rattle.std.proofs.lemmas.Iterator.Search.{all_from_yields_List}
use denote.Enum.Bare.{same_true}
use Rattle.papers.specs.contracts.shape.Shape.{the_type}
use Rattle.forms.specs.Form.{places_of, shape_of}
use Rattle.forms.specs.View.{way_of, places_left}
use Rattle.taking.specs.Advance.{ends_well}
use Rattle.taking.proofs.Places.{record_way, all_need_not}
use Rattle.taking.proofs.fields.ends_well.Goals as goal

pub returns-then-eq : goal.returns-then-eq
returns-then-eq c =
    let w = way_of c.args.way in
    let each = YieldsList-from_first (λ p. p) places_left (places_of w) c.places.ensures.is in
    let left = YieldsList-from_skip c.in-Some.from (YieldsList-at c.skip.ensures.source each) c.skip.ensures.count in
    let shaped = sym (c.shape.ensures ∙ ap shape_of c.read.ensures.is) ∙ same_true the_type (search rules) _ _ (sym c.eq.ensures ∙ c.if-eq.true) in
    all_from_yields_List (λ p. not p.must) c.all.new.self _ _ c.all.ensures.ran left (λ x b q k. search (rules, tests))
    ∙ all_need_not (drop c.in-Some.from (places_of w)) ∙ ap (λ p. ends_well p (places_of w)) (sym c.in-Some.is)
    ∙ sym (record_way (ends_well c.args.progress) w shaped)
