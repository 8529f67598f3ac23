-- Where an axis has no position, neither has the region.
use Rattle.std.proofs.Common.{sym, ◌∙◌, ⊎_elim}
use Rattle.std.proofs.lemmas.Bool.{and_left, and_right}
use Rattle.region.proofs.Regions.{along_none, empty_has}
use Rattle.region.proofs.Region.of_spans.Goals as goal

pub returns-then-across-eq0 : goal.returns-then-across-eq0
returns-then-across-eq0 c =
    λ x y.
    empty_has c.empty.result x y c.empty.ensures
    ∙ sym
    (⊎_elim (λ e. and_left _ _ (along_none c.args.across.from x c.args.across.size e))
    (λ e. and_right _ _ (along_none c.args.down.from y c.args.down.size e.1))
    c.then-across-eq0.either)
