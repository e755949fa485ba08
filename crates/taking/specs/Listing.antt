-- The ways that groups list. Assumes nothing.
use Rattle.std.specs.Prelude.{List, take}
use Rattle.papers.specs.declared.shape.Shape.{Shape}
use Rattle.papers.specs.declared.shape.Shape.TheVariants.{Number, List as ListShape, Record}
use Rattle.taking.specs.declared.group.Group.{Group}
use Rattle.taking.specs.declared.group.WayAt.{WayAt}

abbrev pub ways_of : Group → List WayAt
ways_of g = take g.count g.ways

-- Of a group for each shape, the ways of that for one.
abbrev pub by_shape : Shape → Group → Group → Group → List WayAt
by_shape Number numbers lists records = ways_of numbers
by_shape ListShape numbers lists records = ways_of lists
by_shape Record numbers lists records = ways_of records
