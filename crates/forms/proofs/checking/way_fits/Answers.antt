use Rattle.std.proofs.Common.{◌≡◌, ◌∙◌, ap, true, length, arith}
use Rattle.std.proofs.lemmas.Bool.Decides.{nat_tests}
use Rattle.forms.specs.Fits.{every, place_fits, way_fits}
use Rattle.forms.specs.Form.{places_of}
use Rattle.forms.specs.Layout.{way_from}
use Rattle.forms.proofs.Every.{every_none}
use Rattle.forms.proofs.Parts.{places_of_shape}
use Rattle.forms.proofs.checking.way_fits.Goals as goal

pub returns-then-places-eq0 : goal.returns-then-places-eq0
unfolding way_fits
returns-then-places-eq0 c =
    let way = c.args.way.now in
    let p = places_of_shape (way_from way 0) in
    let test = place_fits c.args.kinds way 0 in
    let n = length (places_of (way_from way 0)) in
    let none : n ≡ 0 = grind arith in
    let fit : every test n ≡ true = ap (every test) none ∙ every_none test in
    grind (arith, nat_tests)

pub returns-else-places-eq0 : goal.returns-else-places-eq0
unfolding way_fits
returns-else-places-eq0 c =
    let p = places_of_shape (way_from c.args.way.now 0) in
    grind (arith, nat_tests)

pub returns-else-within_limits : goal.returns-else-within_limits
unfolding way_fits
returns-else-within_limits c = grind (arith, nat_tests)
