-- The casts change nothing.
use Rattle.std.proofs.Common.{arith}
use Rattle.std.proofs.lemmas.Int.{to_z-of_z}
use Rattle.region.proofs.methods.covers.Goals as goal

pub returns-then-is_within : goal.returns-then-is_within
returns-then-is_within c = grind (arith, to_z-of_z)
