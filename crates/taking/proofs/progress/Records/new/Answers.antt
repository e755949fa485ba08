use Rattle.taking.proofs.Advancing.{all_first}
use Rattle.taking.proofs.progress.Records.new.Goals as goal

pub returns : goal.returns
returns c i = all_first 144 i
