use Rattle.std.proofs.Common.{◌≡◌, length}
use Rattle.taking.specs.Groups.{kind_sees}
use Rattle.taking.specs.Masks.{mask}
use Rattle.taking.specs.Sorted.{sorted_of}
use Rattle.taking.proofs.sorted.SortedForm.kinds_seen.Given as goal

abbrev pub invariant-loop-index : goal.invariant-loop-index
invariant-loop-index g l = l.kinds ≡ mask (kind_sees (g.S.Seen.sees l.seen) (sorted_of l.self) l.at-items l.index) (length (sorted_of l.self))
