-- The corner of a region that is not empty is one of its positions.
use Rattle.std.proofs.Common.{arith}
use Rattle.region.proofs.Regions.{empty_has, first-has}
use Rattle.region.proofs.Region.is_empty.Goals as goal

pub returns-clause-positions : goal.returns-clause-positions
returns-clause-positions c =
    let r = c.args.self in
    (λ e x y. empty_has r x y e, λ none. grind (arith, none r.left r.top, first-has r))
