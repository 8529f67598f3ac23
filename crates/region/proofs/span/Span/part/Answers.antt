-- The casts change nothing, since every number here fits its type.
use Rattle.std.proofs.Common.{w32, w64, SFits, rules}
use Rattle.std.proofs.lemmas.Int.{to_z-of_z}
use Rattle.region.proofs.Cuts.{part_along, part_span}
use Rattle.region.proofs.span.Span.part.Goals as goal

pub invariant_of-result : goal.invariant_of-result
invariant_of-result c =
    let a = c.args.self in
    let f1 : SFits w64 c.args.coordinates.start = search rules in
    let f2 : SFits w64 c.args.coordinates.end = search rules in
    let f3 : SFits w32 c.nearest-from.result = search rules in
    let f4 : SFits w32 c.nearest-to.result = search rules in
    let e = simp to_z-of_z at c.nearest-from.ensures in
    let f = simp to_z-of_z at c.nearest-to.ensures in
    let g = simp to_z-of_z at c.distance.ensures in
    record { fits = simp to_z-of_z (part_span a.from _ _ _ _ a.size c.distance.result e f g a.fits) }

pub returns : goal.returns
returns c =
    let a = c.args.self in
    let f1 : SFits w64 c.args.coordinates.start = search rules in
    let f2 : SFits w64 c.args.coordinates.end = search rules in
    let f3 : SFits w32 c.nearest-from.result = search rules in
    let f4 : SFits w32 c.nearest-to.result = search rules in
    let e = simp to_z-of_z at c.nearest-from.ensures in
    let f = simp to_z-of_z at c.nearest-to.ensures in
    let g = simp to_z-of_z at c.distance.ensures in
    λ at. simp to_z-of_z (part_along a.from _ _ _ _ a.size c.distance.result e f g at)
