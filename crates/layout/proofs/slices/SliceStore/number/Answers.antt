-- The digits are in range exactly where the place is inside.
use Rattle.std.proofs.Common.{arith}
use Rattle.layout.proofs.Places.{found_place}
use Rattle.layout.proofs.slices.SliceStore.number.Goals as goal

pub returns : goal.returns
returns g c =
    let s = c.args.self.now in
    found_place g.met.O.Order.numbers s.samples.ghost_name s.columns s.rows s.samples.now c.args.plane c.args.column c.args.row (omega arith) c.number.result (rw c.planes.ensures at c.number.ensures)
