-- How a program ends. Assumes nothing.
use Rattle.std.specs.Prelude.{◌≡◌, ℕ, ◌<◌, ◌⊎◌, Bool, true, false, List, length}
use Rattle.std.specs.Process.{exit_status}
use Rattle.std.specs.declared.process.ExitCode.{ExitCode}
use Rattle.programs.specs.declared.program.Answer.{Answer}
use Rattle.programs.specs.declared.program.Answer.TheVariants.{Bad}

-- the status after an answer, where the status is to tell of it or not
abbrev pub status_after : Bool → Answer → ℕ
status_after true Bad = 1
status_after told answer = 0

-- the status of a run in which nothing failed: help was asked for, or the program answered
abbrev pub Ended : (help told : Bool) → (Answer → Type 0) → ExitCode → Type 0
Ended true told Answers status = exit_status status ≡ 0
Ended false told Answers status = (answer : Answer) × Answers answer × (exit_status status ≡ status_after told answer)

-- why a run failed: help was asked for; there are too few words or too many; or the program's answer failed so
abbrev pub Failed : {W E : Type 0} → (least most : ℕ) → (help : Bool) → List W → (E → Type 0) → E → Type 0
Failed least most help words Fails error = (help ≡ true) ⊎ ((length words < least) ⊎ ((most < length words) ⊎ Fails error))
