-- The columns and rows are those under the part.
use Rattle.std.proofs.Common.{rules, ◌≡◌, ℕ, pos, ◌+ℤ◌, ◌∙◌, w32, SFits}
use Rattle.std.proofs.lemmas.Int.{to_z-of_z}
use Rattle.region.specs.Positions.{has}
use Rattle.walk.specs.Rectangles.{in_area}
use Rattle.canvas.proofs.parts.area_under.Goals as goal

pub returns : goal.returns
returns c =
    let region = c.args.region in
    let hl : SFits w32 c.args.header.left = search rules in
    let ht : SFits w32 c.args.header.top = search rules in
    let lies : (k r : ℕ) → in_area c.new.result k r ≡ has c.part_under-under.result (region.left +ℤ pos k) (region.top +ℤ pos r) = search rules in
    let shows = simp to_z-of_z at c.part_under-under.ensures in
    λ k r. lies k r ∙ shows (region.left +ℤ pos k) (region.top +ℤ pos r)
