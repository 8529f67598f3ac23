use Rattle.std.proofs.Common.{arith}
use Rattle.std.proofs.lemmas.Int.{to_z-of_z}
use Rattle.region.proofs.Region.part_under.Goals as goal

pub returns : goal.returns
returns c = λ x y. grind (arith, to_z-of_z, c.part.ensures x y, c.moved.ensures x, c.moved-2.ensures y)
