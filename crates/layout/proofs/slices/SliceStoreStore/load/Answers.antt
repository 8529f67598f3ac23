-- Below the count a sample is the row's, and past it 0.0, as the place is then outside.
use Rattle.std.proofs.Common.{◌+◌, sym, ◌∙◌, ⊎_elim, arith}
use Rattle.std.proofs.lemmas.List.{places, get_or-replicate}
use Rattle.std.proofs.lemmas.Bool.{cases_lt}
use Rattle.std.proofs.lemmas.Bool.Decides.{nat_tests}
use Rattle.store.proofs.Inside.{seen_outside}
use Rattle.layout.specs.Slices.{held_of}
use Rattle.layout.proofs.Places.{row_reaches, row_seen}
use Rattle.layout.proofs.slices.SliceStoreStore.load.Goals as goal

pub read_run-requires-clause-room : goal.read_run-requires-clause-room
read_run-requires-clause-room g c =
    let s = c.args.self.now in
    let found = c.in-Some.ensures in
    row_reaches g.met.O.Order.numbers s.samples.ghost_name s.columns s.rows s.samples.now c.args.plane c.args.row _ c.in-Some.first c.stride.result found.1 c.stride.ensures found.0 (grind (arith, places))

pub returns-in-Some : goal.returns-in-Some
returns-in-Some g c = λ k h.
    let s = c.args.self.now in
    let found = c.in-Some.ensures in
    let filled = c.fill.ensures.after (λ y e. e) in
    ⊎_elim
    (λ below. grind (arith, places) ∙ c.read_run.ensures k (grind (arith, places)) ∙ row_seen g.met.O.Order.numbers s.samples.ghost_name s.columns s.rows s.samples.now c.args.plane (c.args.column + k) c.args.row c.in-Some.first c.stride.result found.1 c.stride.ensures found.0 (omega arith))
    (λ past. grind (arith, places, get_or-replicate) ∙ sym (seen_outside (held_of g.O.Order.number s) c.args.plane (c.args.column + k) c.args.row (grind (arith, nat_tests))))
    (cases_lt k c.min-count.result)
