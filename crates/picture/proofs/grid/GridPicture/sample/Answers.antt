-- A position shows what its row holds there.
use Rattle.std.proofs.Common.{w32, w64, SFits, ◌∙◌, rules}
use Rattle.std.proofs.lemmas.Int.{to_z-of_z}
use Rattle.picture.proofs.Grids.{grid_row}
use Rattle.picture.proofs.grid.GridPicture.sample.Goals as goal

pub returns-in-Some : goal.returns-in-Some
returns-in-Some g c =
    let s = c.args.self.now in
    let fx : SFits w32 c.args.x = c.ranges.x in
    let fy : SFits w32 c.args.y = c.ranges.y in
    let fl : SFits w32 c.left.result = search rules in
    let f1 : SFits w64 c.from.result = search rules in
    let f2 : SFits w64 c.from-in-Some.result = search rules in
    let f3 : SFits w64 c.from-in-Some-2.result = search rules in
    let y = simp to_z-of_z at c.from.ensures in
    let left = simp to_z-of_z at c.from-in-Some.ensures in
    let x = simp to_z-of_z at c.from-in-Some-2.ensures in
    let in_row = simp y at (simp to_z-of_z at c.in-Some.ensures) in
    simp x at (simp to_z-of_z at c.read_row.ensures)
    ∙ grid_row g.T.Sample.value s.channels s.region s.samples.now c.in-Some.row.now s.full c.args.channel c.from-in-Some.result
    c.args.x c.args.y in_row.0 in_row.1 in_row.2 (left ∙ c.left.ensures)
