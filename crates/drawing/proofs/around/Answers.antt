-- Four rectangles, apart from each other, that are the whole without the part.
use Rattle.std.proofs.Common.{arith}
use Rattle.drawing.specs.Layers.{touches, drawn_at}
use Rattle.drawing.specs.Local.{drawn_local}
use Rattle.drawing.proofs.Rings.{ringed}
use Rattle.drawing.proofs.around.Goals as goal

pub returns : goal.returns
returns g c =
    let d = c.args.drawing.now in
    let m = g.P.Picture.meaning c.args.picture.now in
    let part = c.args.part in
    ringed c.args.width c.args.height part.left part.right part.top part.bottom c.min-end.result c.min-upper.result c.min-lower.result (omega arith) (omega arith) (omega arith) (touches d) (drawn_at d m) (drawn_local d m)
    (simp c.new.ensures at c.area.ensures) (simp c.new-2.ensures at c.area-2.ensures) (simp c.new-3.ensures at c.area-3.ensures) (simp c.new-4.ensures at c.area-4.ensures)
