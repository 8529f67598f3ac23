-- The casts change nothing, since every number here fits i32.
use Rattle.std.proofs.Common.{◌≡◌, pos, ◌+ℤ◌, ap, ◌∙◌, w32, SFits, rules}
use Rattle.std.specs.Int.{int_max, int_min}
use Rattle.std.proofs.lemmas.Int.{to_z-of_z}
use Rattle.region.proofs.Regions.{far_up, overlap_along, overlap_span}
use Rattle.region.proofs.span.Span.overlap.Goals as goal

pub invariant_of-result : goal.invariant_of-result
invariant_of-result c =
    let a = c.args.self in
    let b = c.args.rhs in
    let from = c.max-from.result in
    let to = c.max-to.result in
    let fa : SFits w32 a.from = search rules in
    let fb : SFits w32 b.from = search rules in
    let f1 : SFits w32 c.end.result = search rules in
    let f2 : SFits w32 c.end-2.result = search rules in
    let f3 : SFits w32 c.min.result = search rules in
    let f4 : SFits w32 from = search rules in
    let f5 : SFits w32 to = search rules in
    let begins : from ≡ int_max a.from b.from = simp to_z-of_z at c.max-from.ensures.value in
    let ends : to ≡ int_max (int_min (a.from +ℤ pos a.size) (b.from +ℤ pos b.size)) from =
    simp to_z-of_z at c.max-to.ensures.value
    ∙ ap (λ z. int_max z from)
    (simp to_z-of_z at c.min.ensures.value
    ∙ ap (λ z. int_min z c.end-2.result) c.end.ensures
    ∙ ap (λ z. int_min (a.from +ℤ pos a.size) z) c.end-2.ensures) in
    let measured = simp to_z-of_z at c.abs_diff.ensures in
    let far : to ≡ from +ℤ pos c.abs_diff.result = far_up from to c.abs_diff.result (simp to_z-of_z at c.max-to.ensures.other_bound) measured in
    record { fits = simp to_z-of_z (overlap_span a.from b.from from to a.size b.size c.abs_diff.result a.fits b.fits begins ends far) }

pub returns : goal.returns
returns c =
    let a = c.args.self in
    let b = c.args.rhs in
    let from = c.max-from.result in
    let to = c.max-to.result in
    let fa : SFits w32 a.from = search rules in
    let fb : SFits w32 b.from = search rules in
    let f1 : SFits w32 c.end.result = search rules in
    let f2 : SFits w32 c.end-2.result = search rules in
    let f3 : SFits w32 c.min.result = search rules in
    let f4 : SFits w32 from = search rules in
    let f5 : SFits w32 to = search rules in
    let begins : from ≡ int_max a.from b.from = simp to_z-of_z at c.max-from.ensures.value in
    let ends : to ≡ int_max (int_min (a.from +ℤ pos a.size) (b.from +ℤ pos b.size)) from =
    simp to_z-of_z at c.max-to.ensures.value
    ∙ ap (λ z. int_max z from)
    (simp to_z-of_z at c.min.ensures.value
    ∙ ap (λ z. int_min z c.end-2.result) c.end.ensures
    ∙ ap (λ z. int_min (a.from +ℤ pos a.size) z) c.end-2.ensures) in
    let measured = simp to_z-of_z at c.abs_diff.ensures in
    let far : to ≡ from +ℤ pos c.abs_diff.result = far_up from to c.abs_diff.result (simp to_z-of_z at c.max-to.ensures.other_bound) measured in
    λ at. simp to_z-of_z (overlap_along a.from b.from from to at a.size b.size c.abs_diff.result begins ends far)
