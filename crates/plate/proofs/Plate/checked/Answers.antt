-- The channels and the frame are looked at second and third.
use Rattle.std.proofs.Common.{◌≡◌, true, Some, ap, ◌∙◌, rules}
use Rattle.std.specs.Result.{result_err}
use Rattle.std.proofs.lemmas.Result.{err_from_is_err_and}
use Rattle.machine.specs.Checks.{frame_allowed}
use Rattle.plate.specs.Format.{header_of, header_sound, channels_allowed}
use Rattle.plate.proofs.Sound.{both_passed, refused}
use Rattle.plate.proofs.Plate.checked.Goals as goal

pub returns-in_err-plate-clause-refusal : goal.returns-in_err-plate-clause-refusal
returns-in_err-plate-clause-refusal c =
    let sound : header_sound c.args.bytes.now ≡ true = search rules in
    let broken = refused (channels_allowed c.args.bytes.now) (frame_allowed (header_of c.args.bytes.now)) _ _ _ _ c.in_err-plate.ensures.refusal in
    let out = err_from_is_err_and c.from_residual-in_err-plate.result c.from_residual-in_err-plate.ensures.1 in
    rw sound (ap result_err out.1 ∙ ap Some out.2 ∙ broken)

pub returns-in_err-unless-2-clause-refusal : goal.returns-in_err-unless-2-clause-refusal
returns-in_err-unless-2-clause-refusal c =
    let sound : header_sound c.args.bytes.now ≡ true = search rules in
    let fine = both_passed (channels_allowed c.args.bytes.now) (frame_allowed (header_of c.args.bytes.now)) _ _ c.in_ok-plate.ensures.refusal in
    let same = c.in_ok-plate.ensures.plate in
    let formulas = rw same at c.formulas_hold.ensures in
    search rules

pub returns-in_err-unless-3-clause-refusal : goal.returns-in_err-unless-3-clause-refusal
returns-in_err-unless-3-clause-refusal c =
    let sound : header_sound c.args.bytes.now ≡ true = search rules in
    let fine = both_passed (channels_allowed c.args.bytes.now) (frame_allowed (header_of c.args.bytes.now)) _ _ c.in_ok-plate.ensures.refusal in
    let same = c.in_ok-plate.ensures.plate in
    let formulas = rw same at c.formulas_hold.ensures in
    search rules

pub returns-in_err-unless-4-clause-refusal : goal.returns-in_err-unless-4-clause-refusal
returns-in_err-unless-4-clause-refusal c =
    let sound : header_sound c.args.bytes.now ≡ true = search rules in
    let fine = both_passed (channels_allowed c.args.bytes.now) (frame_allowed (header_of c.args.bytes.now)) _ _ c.in_ok-plate.ensures.refusal in
    let same = c.in_ok-plate.ensures.plate in
    let formulas = rw same at c.formulas_hold.ensures in
    let content = rw same at c.content_allowed.ensures in
    search rules
