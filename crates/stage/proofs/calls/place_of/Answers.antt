-- A position has a column and a row.
use Rattle.std.proofs.Common.{sym, ap, ◌∙◌, w32, w64, SFits, rules}
use Rattle.std.proofs.lemmas.Int.{to_z-of_z}
use Rattle.std.proofs.lemmas.Bool.{and_from}
use Rattle.region.specs.Positions.{along, column_of, row_of}
use Rattle.stage.proofs.calls.place_of.Goals as goal

pub returns : goal.returns
returns c =
    let fx : SFits w32 c.args.x = c.ranges.x in
    let fy : SFits w32 c.args.y = c.ranges.y in
    let gx : SFits w64 c.from.result = search rules in
    let gy : SFits w64 c.from-2.result = search rules in
    let x = simp to_z-of_z at c.from.ensures in
    let y = simp to_z-of_z at c.from-2.ensures in
    let region = c.args.region in
    let column = simp to_z-of_z at c.in_ok-column.ensures in
    let row = simp to_z-of_z at c.in_ok-row.ensures in (
      and_from (along region.left region.width c.args.x) (along region.top region.height c.args.y)
          (ap (along region.left region.width) (sym x) ∙ column.0) (ap (along region.top region.height) (sym y) ∙ row.0),
      column.2 ∙ ap (column_of region) x,
      row.2 ∙ ap (row_of region) y,
    )
