use Rattle.std.proofs.Common.{◌≡◌, ◌++◌, take, drop}
use Rattle.programs.specs.Bytes.{numbers_in}
use Rattle.programs.proofs.bytes.numbers_into.Given as goal

-- the numbers so far, and then the row as it was
abbrev pub invariant-loop-i : goal.invariant-loop-i
invariant-loop-i l = l.row ≡ take l.i (numbers_in l.bytes) ++ drop l.i l.initial.row
