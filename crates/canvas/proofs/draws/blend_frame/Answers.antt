-- The frame is drawn on the canvas under its covered part, and the sources are kept around it.
use Rattle.std.proofs.Common.{rules, ◌&&◌, ◌-ℤ◌, ap, ◌∙◌}
use Rattle.region.specs.Positions.{has}
use Rattle.picture.specs.Meaning.{blank}
use Rattle.walk.specs.Rectangles.{in_area}
use Rattle.canvas.specs.Fields.{setup_from, opened_from}
use Rattle.canvas.specs.Plans.{blend_plan, keep_plan}
use Rattle.canvas.proofs.Paintings.{frame-blended}
use Rattle.canvas.proofs.Planes.{planned_as}
use Rattle.canvas.proofs.Samples.{across, down}
use Rattle.canvas.proofs.draws.blend_frame.Goals as goal

pub returns : goal.returns
returns g c =
    let s = setup_from c.args.terms.now in
    let o = opened_from c.args.frame.now in
    let hd = o.header in
    let none = c.new-none.result in
    let m = blank none.channels none.region in
    let a = c.area_under-spot.result in
    frame-blended s o c.args.filled.now m c.drawing_of-drawn.result c.drawing_of-kept.result (g.S.Store.held c.args.store.now) (in_area a)
    (g.S.Store.held c.around.new.store)
    (planned_as (c.drawing_of-drawn.ensures (blend_plan s o c.args.filled.now) (λ ch stroke given. search rules)) c.slot_layer-new.ensures)
    (c.drawing_of-kept.ensures (keep_plan s o c.args.filled.now) (λ ch stroke given. search rules))
    (λ column row.
    c.area_under-spot.ensures column row
    ∙ ap (λ b. has s.region (across s column) (down s row) && b) (c.covered_part-covered.ensures (across s column -ℤ hd.left) (down s row -ℤ hd.top)))
    (g.S.Store.held c.area.new.store)
    c.area.ensures
    (simp (c.width.ensures, c.height.ensures) at c.around.ensures)
