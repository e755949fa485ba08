use Rattle.taking.proofs.Changing.{new_field}
use Rattle.taking.proofs.laws.new_field.Goals as goal

pub returns : goal.returns
returns c = new_field
