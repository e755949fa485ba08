use Rattle.std.proofs.Common.{length}
use Rattle.forms.specs.View.{form_of}
use Rattle.taking.specs.Listing.{ways_of}
use Rattle.taking.proofs.Groups.{Grouped}
use Rattle.taking.proofs.sorting.group_of.Given as goal

abbrev pub invariant-loop-way : goal.invariant-loop-way
invariant-loop-way l = Grouped l.shape (form_of l.form) l.kind (length l.yielded) (ways_of l.group)

abbrev pub invariant-loop-kind : goal.invariant-loop-kind
invariant-loop-kind l = Grouped l.shape (form_of l.form) l.kind 0 (ways_of l.group)
