-- The arguments first, and then the state, as for blend.
use Rattle.std.specs.Result.{result_err}
use Rattle.std.proofs.Common.{ap, ◌∙◌}
use Rattle.machine.specs.Checks.{patch_checks, draw_state, fits_store}
use Rattle.machine.specs.Machine.{open_number}
use Rattle.views.specs.View.{size_of, frame_at}
use Rattle.canvas.specs.Fields.{setup_from, patch_from}
use Rattle.stage.specs.Stages.{opened_in, stamp_of}
use Rattle.stage.proofs.Refusals.{in_turn}
use Rattle.stage.proofs.stage.Stage.admit_patch.Goals as goal

pub returns : goal.returns
returns g c =
    let s = setup_from c.args.terms.now in
    let stage = c.args.self.now in
    let h = g.S.Store.held stage.store in
    let patch = patch_from g.P.Picture.meaning c.args.patch.now in
    ap result_err c.and.ensures
    ∙ in_turn (patch_checks s patch) (draw_state s (open_number (frame_at s h (opened_in stage.opened))) (stamp_of c.args.ticket.now) (fits_store (size_of h) s))
    c.patch_arguments-asked.result c.admit_draw.result c.patch_arguments-asked.ensures c.admit_draw.ensures
