-- The casts change nothing, since every number here fits i32.
use Rattle.std.proofs.Common.{arith, w32, SFits, rules}
use Rattle.std.proofs.lemmas.Int.{to_z-of_z}
use Rattle.checks.proofs.arguments.rectangle_inside.Goals as goal

pub returns-else-across : goal.returns-else-across
returns-else-across c =
    let f1 : SFits w32 c.args.rectangle.left = search rules in
    let f2 : SFits w32 c.left.result = search rules in
    let across = simp to_z-of_z at c.is_within-across.ensures in
    grind arith
