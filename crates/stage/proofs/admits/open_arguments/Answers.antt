-- The picture's answers are its meaning, and the channels are the terms'.
use Rattle.std.proofs.Common.{◌∙◌}
use Rattle.machine.specs.Checks.{first_broken, open_checks}
use Rattle.views.specs.View.{image_of}
use Rattle.stage.proofs.admits.open_arguments.Goals as goal

pub returns : goal.returns
returns g c =
    let terms = c.args.terms.now in
    let values = (image_of (g.P.Picture.meaning c.args.picture.now)).values in
    c.open_refusal.ensures terms.mark terms.region values
    ∙ (λ i.
    first_broken
    (open_checks (record { mark = terms.mark; region = terms.region; colors = c.channels_of.ensures.0 i; kinds = c.channels_of.ensures.1 i })
    c.args.header c.args.records.now
    (record { channels = c.shape_of.ensures.0 i; region = c.shape_of.ensures.1 i; values = values })))
