use Rattle.papers.specs.declared.shape.Shape.TheVariants.{Number, List, Record}
use Rattle.taking.proofs.sorted.SortedForm.ways.Goals as goal

pub returns-in-Number-clause-all : goal.returns-in-Number-clause-all
returns-in-Number-clause-all c = rw (c.in-Number.is, c.ways.ensures) (c.args.self.now.sorted Number)

pub returns-in-List-clause-all : goal.returns-in-List-clause-all
returns-in-List-clause-all c = rw (c.in-List.is, c.ways-in-List.ensures) (c.args.self.now.sorted List)

pub returns-in-Record-clause-all : goal.returns-in-Record-clause-all
returns-in-Record-clause-all c = rw (c.in-Record.is, c.ways-in-Record.ensures) (c.args.self.now.sorted Record)
