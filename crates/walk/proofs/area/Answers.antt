-- One row more.
use Rattle.std.proofs.Common.{◌+◌, ◌≤◌, arith}
use Rattle.std.proofs.lemmas.Bool.Decides.{nat_tests}
use Rattle.walk.specs.Rectangles.{in_line, in_area}
use Rattle.walk.proofs.Walks.{walked_on}
use Rattle.walk.proofs.area.Goals as goal

pub loop-row-preserved : goal.loop-row-preserved
loop-row-preserved g c =
    let area = c.args.area in
    let row = c.loop-row.row in
    let passed : area.top ≤ row = omega arith in (
      λ h. omega arith,
      walked_on (in_area (record area { bottom = row })) (in_line area.left area.right row) (λ k r e. grind (arith, nat_tests)) (in_area (record area { bottom = row + 1 }))
          (g.B.Painter.touches c.args.painter.now) (g.B.Painter.value c.args.painter.now (g.P.Picture.meaning c.args.picture.now)) (g.met.B.Painter.local _ _)
          (λ k r. grind (arith, nat_tests)) c.loop-row.invariant.1 c.line.ensures,
    )
