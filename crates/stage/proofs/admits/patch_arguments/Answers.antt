-- The sheet's answers are its meaning, and the channels are the terms'.
use Rattle.std.proofs.Common.{rules, ◌∙◌, w32, SFits}
use Rattle.std.proofs.lemmas.Int.{to_z-of_z}
use Rattle.machine.specs.Checks.{first_broken, patch_checks}
use Rattle.views.specs.View.{image_of}
use Rattle.stage.proofs.admits.patch_arguments.Goals as goal

pub returns : goal.returns
returns g c =
    let terms = c.args.terms.now in
    let patch = c.args.patch.now in
    let values = (image_of (g.P.Picture.meaning patch.sheet.now)).values in
    let fx : SFits w32 patch.x = search rules in
    let fy : SFits w32 patch.y = search rules in
    simp to_z-of_z at (c.patch_refusal.ensures terms.mark terms.region values)
    ∙ (λ i.
    first_broken
    (patch_checks (record { mark = terms.mark; region = terms.region; colors = c.channels_of.ensures.0 i; kinds = c.channels_of.ensures.1 i })
    (record {
      rectangle = patch.rectangle;
      x = patch.x;
      y = patch.y;
      records = patch.records.now;
      sheet = record { channels = c.shape_of.ensures.0 i; region = c.shape_of.ensures.1 i; values = values };
    })))
