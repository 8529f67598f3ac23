-- The body that the trait gives serves.
use Rattle.std.proofs.Common.{w32, SFits}
use Rattle.std.proofs.lemmas.Int.{to_z-of_z}
use Rattle.plate.proofs.PlatePicture.fill.Goals as goal

pub returns : goal.returns
returns c =
    let fx : SFits w32 c.args.x = c.ranges.x in
    let fy : SFits w32 c.args.y = c.ranges.y in
    simp to_z-of_z at c.fill.ensures
