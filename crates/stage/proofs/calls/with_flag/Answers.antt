-- There is no slot past the last.
use Rattle.std.proofs.Common.{◌≡◌, length, sym, arith, rules}
use Rattle.std.proofs.lemmas.List.{set_past}
use Rattle.stage.proofs.calls.with_flag.Goals as goal

pub returns-else-slot-lt4 : goal.returns-else-slot-lt4
returns-else-slot-lt4 c =
    let four : length c.args.filled ≡ 4 = search rules in
    sym (set_past c.args.filled c.args.slot c.args.flag (omega arith))
