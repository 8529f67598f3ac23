-- Each place shows what the row holds there, and 0.0 where there is no row.
use Rattle.std.proofs.Common.{pos, ◌+ℤ◌, sym, refl, ◌∙◌, w32, w64, SFits, rules}
use lib.Ieee.{nan}
use Rattle.std.proofs.lemmas.Int.{to_z-of_z}
use Rattle.picture.specs.Fields.{meaning_of}
use Rattle.picture.proofs.Grids.{grid_row}
use Rattle.picture.proofs.Values.{value_off_rows}
use Rattle.picture.proofs.grid.GridPicture.fill_far.Goals as goal

pub returns-in-None : goal.returns-in-None
returns-in-None g c =
    let fy : SFits w64 c.args.y = c.ranges.y in
    λ k h.
    c.fill.ensures.clones k nan h refl
    ∙ sym
    (value_off_rows (meaning_of g.T.Sample.value c.args.self.now) c.args.channel (c.args.x +ℤ pos k) c.args.y
    (simp to_z-of_z at c.in-None.ensures))

pub returns-in-Some : goal.returns-in-Some
returns-in-Some g c =
    let s = c.args.self.now in
    let fx : SFits w64 c.args.x = c.ranges.x in
    let fy : SFits w64 c.args.y = c.ranges.y in
    let fl : SFits w32 c.left.result = search rules in
    let f1 : SFits w64 c.from.result = search rules in
    let in_row = simp to_z-of_z at c.in-Some.ensures in
    let left = simp to_z-of_z at c.from.ensures in
    let wrote = simp to_z-of_z at c.write_row.ensures in
    λ k h.
    wrote k h
    ∙ grid_row g.T.Sample.value s.channels s.region s.samples.now c.in-Some.row.now s.full c.args.channel c.from.result
    (c.args.x +ℤ pos k) c.args.y in_row.0 in_row.1 in_row.2 (left ∙ c.left.ensures)
