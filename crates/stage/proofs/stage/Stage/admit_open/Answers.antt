-- The arguments first, and then the state.
use Rattle.std.specs.Result.{result_err}
use Rattle.std.proofs.Common.{ap, ◌∙◌}
use Rattle.machine.specs.Checks.{first_broken, open_checks, open_state, fits_store}
use Rattle.machine.specs.Machine.{open_number}
use Rattle.views.specs.View.{image_of, size_of, frame_at}
use Rattle.canvas.specs.Fields.{setup_from}
use Rattle.stage.specs.Stages.{opened_in}
use Rattle.stage.proofs.Refusals.{in_turn}
use Rattle.stage.proofs.stage.Stage.admit_open.Goals as goal

pub returns : goal.returns
returns g c =
    let s = setup_from c.args.terms.now in
    let stage = c.args.self.now in
    let h = g.S.Store.held stage.store in
    ap result_err c.and.ensures
    ∙ in_turn (open_checks s c.args.header c.args.records.now (image_of (g.P.Picture.meaning c.args.picture.now)))
    (open_state (open_number (frame_at s h (opened_in stage.opened))) stage.last c.args.header.number (fits_store (size_of h) s)) c.open_arguments-asked.result c.open_state-state.result
    c.open_arguments-asked.ensures (c.open_state-state.ensures ∙ (λ i. first_broken (open_state (c.current.ensures s h i) stage.last c.args.header.number (c.fits.ensures i))))
