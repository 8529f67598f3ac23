-- Each axis has its positions between the two coordinates.
use Rattle.std.proofs.Common.{◌∙◌}
use Rattle.region.proofs.Cuts.{part_has}
use Rattle.region.proofs.Region.part.Goals as goal

pub returns : goal.returns
returns c =
    λ x y.
    let across = rw (c.across.ensures.0, c.across.ensures.1) at (c.part.ensures x) in
    let down = rw (c.down.ensures.0, c.down.ensures.1) at (c.part-2.ensures y) in
    c.of_spans.ensures x y
    ∙ part_has c.args.self c.args.columns.start c.args.columns.end c.args.rows.start c.args.rows.end x y _ _ across down
