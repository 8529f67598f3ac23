-- What is saved is what was made of the store as it stood; past the last column nothing is inside.
use Rattle.std.proofs.Common.{◌+◌, ◌&&◌, refl, arith}
use Rattle.std.proofs.lemmas.Bool.Decides.{nat_tests}
use Rattle.store.proofs.Changes.{changed_like}
use Rattle.store.proofs.Inside.{inside_parts}
use Rattle.walk.specs.Rectangles.{in_line}
use Rattle.drawing.specs.Layers.{touches, drawn_at}
use Rattle.drawing.proofs.Saves.{all_saved}
use Rattle.drawing.proofs.runs.DrawingPainter.paint_run.Goals as goal

pub returns : goal.returns
returns g c =
    let d = c.args.self.now in
    let m = g.P.Picture.meaning c.args.picture.now in
    let h = g.S.Store.held c.args.store.now in
    let run = c.args.run in
    changed_like (all_saved d m run.column run.row c.min.result c.gather.new.room.made c.gather.ensures c.scatter.ensures)
    (λ p k r. touches d p && in_line run.column (run.column + run.count) run.row k r) (drawn_at d m h)
    (λ p k r i. let parts = inside_parts h p k r i in grind (arith, nat_tests)) (λ p k r _ _. refl)
