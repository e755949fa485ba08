use Rattle.std.proofs.Common.{◌+◌, ◌-◌, ◌*◌, length}
use Rattle.papers.proofs.Loops.{list_read, record_read, ListLeft, RecordLeft}
use Rattle.papers.proofs.reading.+reading.Given as goal

-- what is left of the row falls: twice it, so that the reading of a list or record stands between those of two papers
abbrev pub decreases-read_list : goal.decreases-read_list
decreases-read_list g l = 2 * length l.row.now + 1

abbrev pub decreases-read_paper : goal.decreases-read_paper
decreases-read_paper g l = 2 * length l.row.now

abbrev pub decreases-read_record : goal.decreases-read_record
decreases-read_record g l = 2 * length l.row.now + 1

abbrev pub invariant-read_list-loop : goal.invariant-read_list-loop
invariant-read_list-loop g l = ListLeft l.levels (list_read (g.F.Fold.of l.fold) l.levels l.row) (g.F.Fold.list_of l.fold l.counter l.papers) (l.end - l.counter) l.row l.rest

abbrev pub invariant-read_record-loop : goal.invariant-read_record-loop
invariant-read_record-loop g l = RecordLeft l.levels (record_read (g.F.Fold.of l.fold) l.levels l.row) (g.F.Fold.record_of l.fold l.so_far) (l.end - l.counter) l.low l.row l.rest
