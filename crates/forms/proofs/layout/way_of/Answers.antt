use Rattle.std.proofs.Common.{◌<◌, get_or, arith}
use Rattle.forms.specs.Layout.{way_by}
use Rattle.forms.proofs.Parts.{shape_of_rest}
use Rattle.forms.proofs.layout.way_of.Goals as goal

pub returns-in-Ok-Number : goal.returns-in-Ok-Number
unfolding way_by
returns-in-Ok-Number c = rw (← c.in-Ok-Number.ensures, c.in-Ok-Number.field-0-is)

pub returns-in-Ok-List : goal.returns-in-Ok-List
unfolding way_by
returns-in-Ok-List c = rw (← c.in-Ok-List.ensures, c.in-Ok-List.field-0-is)

pub returns-in-Ok-Record : goal.returns-in-Ok-Record
returns-in-Ok-Record c =
    let way = c.args.way.now in
    let h : 1 < get_or way 0 0 = grind arith in
    shape_of_rest (get_or way 0 0) way 0 h
