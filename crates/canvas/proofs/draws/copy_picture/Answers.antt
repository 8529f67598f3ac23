-- The part is the canvas under the covered part of the frame.
use Rattle.std.proofs.Common.{rules, ◌&&◌, ◌-ℤ◌, ap, ◌∙◌}
use Rattle.region.specs.declared.Region.{Region}
use Rattle.region.specs.Positions.{has}
use Rattle.machine.specs.Machine.{covered}
use Rattle.walk.specs.Rectangles.{in_area}
use Rattle.canvas.specs.Fields.{setup_from}
use Rattle.canvas.specs.Plans.{open_plan}
use Rattle.canvas.proofs.Paintings.{picture_copied}
use Rattle.canvas.proofs.Planes.{planned_as}
use Rattle.canvas.proofs.Samples.{across, down}
use Rattle.canvas.proofs.draws.copy_picture.Goals as goal

pub returns : goal.returns
returns g c =
    let s = setup_from c.args.terms.now in
    let hd = c.args.header in
    let m = g.P.Picture.meaning c.args.picture.now in
    let a = c.area_under-spot.result in
    picture_copied s hd m (in_area a)
    (planned_as (c.drawing_of-drawing.ensures open_plan (λ ch stroke given. search rules)) c.sheet_layer-new.ensures)
    (λ column row.
    c.area_under-spot.ensures column row
    ∙ ap (λ b. has s.region (across s column) (down s row) && b)
    (c.covered_part-covered.ensures (across s column -ℤ hd.left) (down s row -ℤ hd.top)
    ∙ ap (λ (r : Region). covered hd r (across s column -ℤ hd.left) (down s row -ℤ hd.top)) c.region.ensures))
    c.area.ensures
