-- One sample is written, at the number of the place.
use Rattle.layout.proofs.Places.{changed_put}
use Rattle.layout.proofs.slices.SliceStoreStore.put.Goals as goal

pub returns-clause-places : goal.returns-clause-places
returns-clause-places g c =
    let s = c.args.self.now in
    let found = c.in-Some.ensures in
    rw found.1 (changed_put g.met.O.Order.numbers s.samples.ghost_name s.columns s.rows s.samples.now c.args.plane c.args.column c.args.row c.args.value found.0)
