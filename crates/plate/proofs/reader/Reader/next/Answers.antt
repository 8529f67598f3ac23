-- A plate that is not refused has some bytes.
use Rattle.std.proofs.Common.{arith}
use Rattle.plate.proofs.Sound.{some_within}
use Rattle.plate.proofs.reader.Reader.next.Goals as goal

pub invariant_of-self : goal.invariant_of-self
invariant_of-self c =
    let some = some_within _ _ c.in_ok-plate.ensures.refusal in
    record { fewer = omega arith }
