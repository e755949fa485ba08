use Rattle.std.proofs.Common.{vec_items}
use Rattle.std.specs.List.{AllByRecursion}
use Rattle.programs.specs.Words.{NoOption}
use Rattle.programs.proofs.line.parse.Given as goal

abbrev pub invariant-loop-arg : goal.invariant-loop-arg
invariant-loop-arg l = AllByRecursion NoOption (vec_items l.command.words)
