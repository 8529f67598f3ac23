-- Refused, nothing has changed; taken, a frame is open and the patch is drawn on it.
use Rattle.std.proofs.Common.{◌≡◌, ◌++◌, Some, None, Option, refl, ap, subst, w32, SFits, rules}
use Rattle.std.proofs.lemmas.Int.{to_z-of_z}
use Rattle.machine.specs.Calls.{Patch, patching}
use Rattle.machine.specs.Checks.{first_broken, patch_checks, draw_state, fits_store}
use Rattle.machine.specs.Machine.{open_number}
use Rattle.views.specs.View.{image_of, size_of, frame_in, frame_at}
use Rattle.views.specs.Step.{patches, on_frame}
use Rattle.canvas.specs.declared.terms.OpenFrame.{OpenFrame}
use Rattle.canvas.specs.Fields.{setup_from, opened_from}
use Rattle.stage.specs.Stages.{view_of, opened_in, stamp_of}
use Rattle.stage.proofs.Refusals.{no_frame}
use Rattle.stage.proofs.Steps.{takes}
use Rattle.stage.proofs.stage.Stage.patch.Goals as goal

pub returns-in_err-admit_patch : goal.returns-in_err-admit_patch
returns-in_err-admit_patch g c =
    let fx : SFits w32 c.args.x = c.ranges.x in
    let fy : SFits w32 c.args.y = c.ranges.y in
    let admitted = simp to_z-of_z at c.admit_patch.ensures in
    search rules

pub returns-in_err-frame : goal.returns-in_err-frame
returns-in_err-frame g c =
    let fx : SFits w32 c.args.x = c.ranges.x in
    let fy : SFits w32 c.args.y = c.ranges.y in
    let admitted = simp to_z-of_z at c.admit_patch.ensures in
    let stage = c.args.self.now in
    let s = setup_from c.in_ok-terms.terms in
    let h = g.S.Store.held stage.store in
    let stamp = stamp_of c.args.ticket.now in
    let patch : Patch = record { rectangle = c.args.rectangle; x = c.args.x; y = c.args.y; records = c.args.records.now; sheet = image_of (g.P.Picture.meaning c.args.sheet.now) } in
    let closed : stage.opened ≡ None = search rules in
    let fine : None ≡ first_broken (patch_checks s patch ++ draw_state s (open_number (frame_at s h (opened_in stage.opened))) stamp (fits_store (size_of h) s)) = search rules in
    let Fine : Option OpenFrame → Type 0 = λ o. None ≡ first_broken (patch_checks s patch ++ draw_state s (open_number (frame_at s h (opened_in o))) stamp (fits_store (size_of h) s)) in
    absurd (no_frame (patch_checks s patch) s stamp (fits_store (size_of h) s) (subst Fine closed fine))

pub returns : goal.returns
returns g c =
    let fx : SFits w32 c.args.x = c.ranges.x in
    let fy : SFits w32 c.args.y = c.ranges.y in
    let admitted = simp to_z-of_z at c.admit_patch.ensures in
    let stage = c.args.self.now in
    let terms = c.in_ok-terms.terms in
    let s = setup_from terms in
    let h = g.S.Store.held stage.store in
    let o = opened_from c.in_ok-frame.frame in
    let patch : Patch = record { rectangle = c.args.rectangle; x = c.args.x; y = c.args.y; records = c.args.records.now; sheet = image_of (g.P.Picture.meaning c.args.sheet.now) } in
    let took : stage.terms ≡ Some terms = search rules in
    let opened : stage.opened ≡ Some c.in_ok-frame.frame = search rules in
    takes g.S.Store.held stage terms took (patching (stamp_of c.args.ticket.now) patch) (view_of g.S.Store.held stage).book
    (g.S.Store.held c.draw_patch.new.store) (Some (patches s (frame_in s h o) patch)) (search rules) refl
    (ap (λ q. on_frame (frame_at s h (opened_in q)) (λ f. patches s f patch)) opened) (simp to_z-of_z at c.draw_patch.ensures)
