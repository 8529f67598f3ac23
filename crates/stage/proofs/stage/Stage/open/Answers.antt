-- Refused, nothing has changed; taken, the picture is copied and the frame is kept.
use Rattle.std.proofs.Common.{rules}
use Rattle.views.specs.View.{image_of, size_of, work_at}
use Rattle.canvas.specs.Fields.{setup_from}
use Rattle.stage.specs.Stages.{view_of}
use Rattle.stage.proofs.Refusals.{open_fits}
use Rattle.stage.proofs.stage.Stage.open.Goals as goal

-- an open frame can always be made of what was admitted
pub returns-in_err-frame : goal.returns-in_err-frame
returns-in_err-frame g c =
    let stage = c.args.self.now in
    let h = g.S.Store.held stage.store in
    let terms = c.in_ok-terms.terms in
    let image = image_of (g.P.Picture.meaning c.args.picture.now) in
    let fits = open_fits terms (size_of h) (work_at (setup_from terms) (view_of g.S.Store.held stage).book h) c.args.header c.args.records.now image (search rules) in
    search rules
