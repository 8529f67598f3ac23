-- Steps to the right add up; past the greatest coordinate a picture has nothing.
use Rattle.std.proofs.Common.{◌≡◌, ℕ, ◌+◌, false, ℤ, pos, ◌+ℤ◌, ◌<ℤ◌, sym, refl, ap, ◌∙◌, arith, w64, SFits, rules}
use Rattle.std.specs.Float.{nan}
use Rattle.std.proofs.lemmas.Int.{ints, to_z-of_z}
use Rattle.region.specs.Bounds.{greatest_coordinate}
use Rattle.picture.specs.Meaning.{value_at}
use Rattle.steps.specs.Gaps.{is_coordinate}
use Rattle.picture.proofs.Values.{value_off_lines}
use Rattle.drawing.proofs.layers.fill_from.Goals as goal

on : (x : ℤ) (c k : ℕ) → ((x +ℤ pos c) +ℤ pos k) ≡ (x +ℤ pos (c + k))
on x c k = omega (arith, ints)

off : (y : ℤ) (r : ℕ) → greatest_coordinate <ℤ (y +ℤ pos r) → is_coordinate (y +ℤ pos r) ≡ false
off y r h = grind (arith, ints)

pub returns-in_default-steps_on : goal.returns-in_default-steps_on
returns-in_default-steps_on g c =
    let fy : SFits w64 c.args.y = c.ranges.y in
    let far = simp to_z-of_z at c.in_default-steps_on.ensures in
    λ k h.
    c.fill-in_default-steps_on.ensures.clones k nan h refl
    ∙ sym (value_off_lines (g.P.Picture.meaning c.args.picture.now) c.args.place.channel _ _ (off c.args.y c.args.place.row far))

pub returns : goal.returns
returns g c =
    let m = g.P.Picture.meaning c.args.picture.now in
    let place = c.args.place in
    let fx : SFits w64 c.args.x = c.ranges.x in
    let fy : SFits w64 c.args.y = c.ranges.y in
    let gx : SFits w64 c.in-Some.x = search rules in
    let gy : SFits w64 c.in-Some-steps_on.y = search rules in
    let across = simp to_z-of_z at c.in-Some.ensures in
    let down = simp to_z-of_z at c.in-Some-steps_on.ensures in
    λ k h.
    let shift : (c.in-Some.x +ℤ pos k) ≡ (c.args.x +ℤ pos (place.column + k)) = ap (λ x. x +ℤ pos k) across ∙ on c.args.x place.column k in
    ◌∙◌ {b = value_at m place.channel (c.in-Some.x +ℤ pos k) c.in-Some-steps_on.y} (simp to_z-of_z at (c.fill_far.ensures k h)) (λ i. value_at m place.channel (shift i) (down i))
