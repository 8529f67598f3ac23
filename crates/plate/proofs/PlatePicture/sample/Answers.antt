-- Each position shows the sample with its number, and where there is none 0.0.
use Rattle.std.proofs.Common.{◌+◌, ◌*◌, ◌^◌, ◌<◌, ap, ◌∙◌, w32, SFits, rules}
use Rattle.std.proofs.lemmas.Int.{to_z-of_z}
use Rattle.byte_fields.specs.Words.{float_at}
use Rattle.plate.proofs.Shown.{shown_value, off_value, told_value}
use Rattle.plate.proofs.PlatePicture.sample.Goals as goal

pub returns-in-None : goal.returns-in-None
returns-in-None c =
    let fx : SFits w32 c.args.x = c.ranges.x in
    let fy : SFits w32 c.args.y = c.ranges.y in
    let p = c.args.self.now in
    let w : p.width < 2 ^ 16 = search rules in
    let h : p.height < 2 ^ 16 = search rules in
    off_value p.channels p.width p.height p.start p.bytes.now w h c.args.channel c.args.x c.args.y
    (simp to_z-of_z at c.in-None.ensures)
    ∙ told_value p.channels_told p.sides_told.0 p.sides_told.1 p.start_told p.bytes.now c.args.channel c.args.x c.args.y

pub returns-in-Some : goal.returns-in-Some
returns-in-Some c =
    let fx : SFits w32 c.args.x = c.ranges.x in
    let fy : SFits w32 c.args.y = c.ranges.y in
    let p = c.args.self.now in
    let w : p.width < 2 ^ 16 = search rules in
    let h : p.height < 2 ^ 16 = search rules in
    let told = simp to_z-of_z at c.in-Some.ensures in
    c.float_at.ensures
    ∙ ap (λ start. float_at p.bytes.now (start + 4 * c.in-Some.number)) c.from.ensures
    ∙ shown_value p.channels p.width p.height p.start p.bytes.now w h c.args.channel c.args.x c.args.y c.in-Some.number
    told.0 told.1
    ∙ told_value p.channels_told p.sides_told.0 p.sides_told.1 p.start_told p.bytes.now c.args.channel c.args.x c.args.y
