-- The run is written to its row.
use Rattle.std.proofs.Common.{◌+◌, length, arith}
use Rattle.std.proofs.lemmas.Bool.Decides.{nat_tests}
use Rattle.layout.proofs.Places.{row_reaches, changed_run}
use Rattle.layout.proofs.slices.SliceStoreStore.save.Goals as goal

pub write_run-requires-clause-room : goal.write_run-requires-clause-room
write_run-requires-clause-room g c =
    let s = c.args.self.now in
    let found = c.in-Some.ensures in
    row_reaches g.met.O.Order.numbers s.samples.ghost_name s.columns s.rows s.samples.now c.args.plane c.args.row (c.args.column + length c.args.from.now) c.in-Some.first c.stride-stride.result found.1 c.stride-stride.ensures found.0 (grind (arith, nat_tests))

pub returns-clause-places : goal.returns-clause-places
returns-clause-places g c =
    let s = c.args.self.now in
    let found = c.in-Some.ensures in
    changed_run g.met.O.Order.numbers s.samples.ghost_name s.columns s.rows s.samples.now c.write_run.new.samples c.args.from.now c.args.plane c.args.column c.args.row (length c.args.from.now) c.in-Some.first c.stride-stride.result found.1 c.stride-stride.ensures found.0 (grind (arith, nat_tests)) c.write_run.ensures
