use Rattle.std.proofs.Common.{rules, tests}
use Rattle.std.proofs.lemmas.Iterator.Adapters.{YieldsList-from_skip}
use Rattle.std.proofs.lemmas.Iterator.Consumers.{YieldsList-at, YieldsList-from_enumerate, YieldsList-from_first}
use Rattle.std.proofs.lemmas.Iterator.Search.{find_from_yields_List}
use Rattle.forms.specs.Form.{places_of}
use Rattle.forms.specs.View.{way_of, places_left}
use Rattle.taking.proofs.Places.{stops, find_told}
use Rattle.taking.proofs.fields.stop.Goals as goal

pub returns : goal.returns
returns c =
    let each = YieldsList-from_first (λ p. p) places_left (places_of (way_of c.args.way)) c.places.ensures.is in
    let numbered = YieldsList-from_enumerate (YieldsList-at c.enumerate.ensures.source each) c.enumerate.ensures.count in
    let left = YieldsList-from_skip c.args.from (YieldsList-at c.skip.ensures.source numbered) c.skip.ensures.count in
    find_told c.args.way c.args.name c.args.from c.find.result
    (find_from_yields_List (λ q. stops c.args.name q.1) c.find.new.self _ _ c.find.ensures.ran left (λ x b q k. search (rules, tests)))
