-- The first and the last position of the target stand for all of them.
use Rattle.std.proofs.lemmas.Bool.Decides.{Decides-at}
use Rattle.region.proofs.Regions.{covers_decides}
use Rattle.region.proofs.Region.contains.Goals as goal

pub returns : goal.returns
returns c = Decides-at _ _ c.covers.ensures (covers_decides c.args.self c.args.target)
