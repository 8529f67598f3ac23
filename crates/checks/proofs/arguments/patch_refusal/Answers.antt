-- The casts change nothing, since every number here fits i32.
use Rattle.std.proofs.Common.{w32, SFits, rules}
use Rattle.std.proofs.lemmas.Int.{to_z-of_z}
use Rattle.checks.proofs.arguments.patch_refusal.Goals as goal

pub returns : goal.returns
returns c = λ mark tile values.
    let f1 : SFits w32 c.args.x = c.ranges.x in
    let f2 : SFits w32 c.args.y = c.ranges.y in
    let places = simp to_z-of_z at c.both_allowed.ensures in
    search rules
