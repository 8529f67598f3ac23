-- Each channel has what its call gave, and there is none past the last.
use Rattle.std.proofs.Common.{rules, ◌≡◌, ◌<◌, None, cond, ltb, sym, ◌∙◌, ⊎_elim, arith}
use Rattle.std.proofs.lemmas.Bool.{cases_lt, cond-false, le-ltb}
use Rattle.std.proofs.lemmas.List.{get_or_past}
use Rattle.canvas.proofs.Arrays.{each_made}
use Rattle.canvas.proofs.plans.strokes.Goals as goal

pub returns : goal.returns
returns g c =
    λ plan follows ch.
    ⊎_elim
    (λ (small : ch < 11). each_made _ (λ i stroke. stroke ≡ cond (ltb i c.args.channels) (plan i) None) _ (λ i stroke q call. search (rules, follows)) _ c.from_fn.ensures.items ch small None)
    (λ past. get_or_past c.from_fn.result ch None (search rules) ∙ sym (cond-false (ltb ch c.args.channels) _ _ (le-ltb _ _ (omega arith))))
    (cases_lt ch 11)
