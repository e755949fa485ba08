use Rattle.std.proofs.Common.{◌/◌, ◌^◌}
use Rattle.std.proofs.lemmas.Nat.{and_mask}
use Rattle.taking.proofs.mask.holds.Goals as goal

pub returns : goal.returns
returns c = let bit = and_mask (c.args.kinds / 2 ^ c.args.kind) 1 in cc
