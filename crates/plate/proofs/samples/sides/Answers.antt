-- Either way the region is the one that the sides make.
use Rattle.std.proofs.Common.{◌∙◌}
use Rattle.plate.proofs.Sides.{made_region, no_region}
use Rattle.plate.proofs.samples.sides.Goals as goal

pub returns-in-Ok : goal.returns-in-Ok
returns-in-Ok c =
    let made = c.in-Ok.ensures in
    made_region c.args.width c.args.height _ made.0 made.1 (made.2 ∙ c.from.ensures) (made.3 ∙ c.from-2.ensures)

pub returns-in-Err : goal.returns-in-Err
returns-in-Err c =
    no_region c.args.width c.args.height _ (simp (c.from.ensures, c.from-2.ensures) at c.in-Err.ensures.1) c.empty.ensures
