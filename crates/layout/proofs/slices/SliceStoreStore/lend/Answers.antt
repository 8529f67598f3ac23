-- A run that is lent lies in one piece among the samples, and reads as the store's.
use Rattle.std.proofs.Common.{◌≡◌, ◌+◌, true, sym, ◌∙◌, arith}
use Rattle.std.proofs.lemmas.Bool.Decides.{nat_tests}
use Rattle.std.proofs.lemmas.List.{places}
use Rattle.layout.proofs.Places.{row_fits, row_seen}
use Rattle.layout.proofs.slices.SliceStoreStore.lend.Goals as goal

pub slice_bounds-result-end : goal.slice_bounds-result-end
slice_bounds-result-end g c =
    let s = c.args.self.now in
    let found = c.in_ok-first.ensures in
    let lends : g.O.Order.LENDS ≡ true = sym c.LENDS.ensures ∙ c.if-not-LENDS.false in
    omega (arith, row_fits g.met.O.Order.numbers s.samples.ghost_name s.columns s.rows s.samples.now c.args.plane c.args.row (c.args.column + c.args.count) c.in_ok-first.field-0 found.1 (g.met.O.Order.side_by_side lends _) found.0 (grind (arith, nat_tests)))

pub returns-clause-run : goal.returns-clause-run
returns-clause-run g c =
    let s = c.args.self.now in
    let found = c.in_ok-first.ensures in
    let lends : g.O.Order.LENDS ≡ true = sym c.LENDS.ensures ∙ c.if-not-LENDS.false in
    let near = g.met.O.Order.side_by_side lends _ in
    let fits = row_fits g.met.O.Order.numbers s.samples.ghost_name s.columns s.rows s.samples.now c.args.plane c.args.row (c.args.column + c.args.count) c.in_ok-first.field-0 found.1 near found.0 (grind (arith, nat_tests)) in (
      grind (arith, places),
      λ k h. grind (arith, places) ∙ row_seen g.met.O.Order.numbers s.samples.ghost_name s.columns s.rows s.samples.now c.args.plane (c.args.column + k) c.args.row c.in_ok-first.field-0 1 found.1 (sym near) found.0 (grind (arith, nat_tests)),
    )
