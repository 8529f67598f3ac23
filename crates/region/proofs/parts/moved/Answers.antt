-- Both ends are moved alike.
use Rattle.std.proofs.Common.{arith}
use Rattle.std.proofs.lemmas.Int.{ints}
use Rattle.region.proofs.Cuts.{moved_along}
use Rattle.region.proofs.parts.moved.Goals as goal

pub returns : goal.returns
returns c at = moved_along c.args.from c.args.by _ _ at c.args.size (omega (arith, ints)) (omega (arith, ints))
