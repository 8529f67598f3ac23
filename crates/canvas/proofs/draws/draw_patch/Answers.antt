-- The part is the canvas under what the frame's covered part and the patch have in common.
use Rattle.std.proofs.Common.{◌&&◌, ◌-ℤ◌, ap, ◌∙◌, w32, SFits, rules}
use Rattle.std.proofs.lemmas.Int.{to_z-of_z}
use Rattle.region.specs.Positions.{along, has}
use Rattle.walk.specs.Rectangles.{in_area}
use Rattle.canvas.specs.Fields.{setup_from, opened_from}
use Rattle.canvas.specs.Plans.{patch_plan}
use Rattle.canvas.proofs.Paintings.{patch_drawn}
use Rattle.canvas.proofs.Planes.{planned_as}
use Rattle.canvas.proofs.Samples.{across, down}
use Rattle.canvas.proofs.draws.draw_patch.Goals as goal

pub returns : goal.returns
returns g c =
    let s = setup_from c.args.terms.now in
    let o = opened_from c.args.frame.now in
    let hd = o.header in
    let patch = c.args.patch.now in
    let rect = patch.rectangle in
    let m = g.P.Picture.meaning patch.sheet.now in
    let a = c.area_under-spot.result in
    let fx : SFits w32 patch.x = search rules in
    let fy : SFits w32 patch.y = search rules in
    let fl : SFits w32 rect.left = search rules in
    let ft : SFits w32 rect.top = search rules in
    let cut = simp to_z-of_z at c.cut-met.ensures in
    patch_drawn s o m rect patch.x patch.y patch.records.now c.drawing_of-drawing.result (g.S.Store.held c.args.store.now) (in_area a)
    (g.S.Store.held c.area.new.store)
    (planned_as (c.drawing_of-drawing.ensures (patch_plan s patch.records.now) (λ ch stroke given. search rules)) (simp to_z-of_z at c.sheet_layer-new.ensures))
    (λ column row.
    let x = across s column -ℤ hd.left in
    let y = down s row -ℤ hd.top in
    c.area_under-spot.ensures column row
    ∙ ap (λ b. has s.region (across s column) (down s row) && b)
    (cut x y ∙ ap (λ b. b && (along patch.x rect.width x && along patch.y rect.height y)) (c.covered_part-covered.ensures x y)))
    c.area.ensures
