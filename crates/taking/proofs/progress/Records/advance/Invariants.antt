use Rattle.taking.specs.Sorted.{sorted_of}
use Rattle.taking.proofs.Advancing.{Advanced}
use Rattle.taking.proofs.progress.Records.advance.Given as goal

abbrev pub invariant-loop-index : goal.invariant-loop-index
invariant-loop-index l = Advanced (sorted_of l.form) l.at-items l.field.name l.field.kinds l.index l.initial.self.ways l.self.ways
