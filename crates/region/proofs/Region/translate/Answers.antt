-- Both axes fit once they are moved, and each moves its positions.
use Rattle.std.proofs.Common.{◌+ℤ◌, sym, refl, ◌∙◌, w32, SFits}
use Rattle.std.proofs.lemmas.Int.{to_z-of_z}
use Rattle.std.proofs.lemmas.Result.{err_from_is_err_and}
use Rattle.region.proofs.Regions.{filled_moves, across_stays, down_stays, along_moved}
use Rattle.region.proofs.Region.translate.Goals as goal

pub returns-in_err-across : goal.returns-in_err-across
returns-in_err-across c =
    let f : SFits w32 c.args.x = c.ranges.x in
    let p = err_from_is_err_and c.from_residual.result c.from_residual.ensures.1 in
    let none = simp (to_z-of_z, c.across.ensures.0, c.across.ensures.1) at c.in_err-across.ensures in
    rw p.1 (p.2 ∙ none.0, across_stays c.args.self c.args.x c.args.y (sym c.is_empty.ensures.flag ∙ c.if-is_empty.false) none.1)

pub returns-in_err-down : goal.returns-in_err-down
returns-in_err-down c =
    let f : SFits w32 c.args.y = c.ranges.y in
    let p = err_from_is_err_and c.from_residual-in_err-down.result c.from_residual-in_err-down.ensures.1 in
    let none = simp (to_z-of_z, c.down.ensures.0, c.down.ensures.1) at c.in_err-down.ensures in
    rw p.1 (p.2 ∙ none.0, down_stays c.args.self c.args.x c.args.y (sym c.is_empty.ensures.flag ∙ c.if-is_empty.false) none.1)

pub returns : goal.returns
returns c =
    let r = c.args.self in
    let f : SFits w32 c.args.x = c.ranges.x in
    let g : SFits w32 c.args.y = c.ranges.y in
    let across = simp (to_z-of_z, c.across.ensures.0, c.across.ensures.1) at c.in_ok-across.ensures in
    let down = simp (to_z-of_z, c.down.ensures.0, c.down.ensures.1) at c.in_ok-down.ensures in (
      filled_moves r c.args.x c.args.y (sym c.is_empty.ensures.flag ∙ c.if-is_empty.false) (rw (← across.0, ← across.1) c.in_ok-across.across.fits) (rw (← down.0, ← down.1) c.in_ok-down.down.fits),
      λ p q. c.of_spans.ensures (p +ℤ c.args.x) (q +ℤ c.args.y) ∙ rw (across.0, across.1, down.0, down.1, along_moved, along_moved) refl,
    )
