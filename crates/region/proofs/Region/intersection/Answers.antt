-- Each axis has the positions that both axes have.
use Rattle.std.proofs.Common.{◌≡◌, ◌&&◌, ap, ◌∙◌, rules}
use Rattle.region.specs.Positions.{along}
use Rattle.region.proofs.Regions.{and_exchange}
use Rattle.region.proofs.Region.intersection.Goals as goal

pub returns : goal.returns
returns c =
    λ x y.
    let r = c.args.self in
    let s = c.args.rhs in
    let o = c.overlap.ensures x in
    let u = c.overlap-2.ensures y in
    let across : along c.overlap.result.from c.overlap.result.size x ≡ (along r.left r.width x && along s.left s.width x) = search rules in
    let down : along c.overlap-2.result.from c.overlap-2.result.size y ≡ (along r.top r.height y && along s.top s.height y) = search rules in
    c.of_spans.ensures x y
    ∙ ap (λ b. b && along c.overlap-2.result.from c.overlap-2.result.size y) across
    ∙ ap (λ b. (along r.left r.width x && along s.left s.width x) && b) down
    ∙ and_exchange (along r.left r.width x) (along s.left s.width x) (along r.top r.height y) (along s.top s.height y)
