-- Each turn writes what is read one place on; where a coordinate is no i32, that is 0.0.
use Rattle.std.proofs.Common.{◌≡◌, ◌<◌, length, pos, ◌+ℤ◌, sym, refl, ap, ◌∙◌, false, arith, w32, w64, SFits, rules}
use lib.Ieee.{nan}
use Rattle.std.proofs.lemmas.List.Edits.{fill_by_more}
use Rattle.std.proofs.lemmas.Int.{ints, to_z-of_z}
use Rattle.steps.specs.Gaps.{is_coordinate}
use Rattle.picture.specs.Meaning.{value_at}
use Rattle.picture.proofs.Values.{value_off_columns, value_off_lines}
use Rattle.picture.proofs.Picture.fill_far.Goals as goal
use Rattle.picture.proofs.Picture.fill_far.Goals.{in-Some, in-None}

pub returns-in_default : goal.returns-in_default
returns-in_default g c =
    let none : is_coordinate c.args.y ≡ false = grind (arith, ints) in
    λ k h.
    c.fill.ensures.clones k nan h refl
    ∙ sym (value_off_lines (g.Self.Picture.meaning c.args.self.now) c.args.channel (c.args.x +ℤ pos k) c.args.y none)

pub loop-k-preserved : goal.loop-k-preserved
loop-k-preserved g c =
    let m = g.Self.Picture.meaning c.args.self.now in
    let fx : SFits w64 c.args.x = c.ranges.x in
    let fy : SFits w64 c.args.y = c.ranges.y in
    let fr : SFits w32 c.in-Ok.row = search rules in
    let row : c.in-Ok.row ≡ c.args.y = grind (arith, ints) in
    let here : c.match-onward.place ≡ value_at m c.args.channel (c.args.x +ℤ pos c.loop-k.k) c.args.y =
    elim c.match-onward.branch [
      | in-Some w ↦
          let fa : SFits w32 w.in-Some.column = search rules in
          w.place-is
          ∙ simp row at (simp to_z-of_z at w.sample.ensures)
          ∙ ap (λ at. value_at m c.args.channel at c.args.y) (simp to_z-of_z at w.in-Some.ensures)
      | in-None w ↦ w.place-is ∙ sym (value_off_columns m c.args.channel _ c.args.y (simp to_z-of_z at w.in-None.ensures))
    ] in
    let inv = simp to_z-of_z at c.loop-k.invariant in
    let long : c.loop-k.k < length c.loop-k.into = omega arith in
    simp (to_z-of_z, here) (fill_by_more (λ k. value_at m c.args.channel (c.args.x +ℤ pos k) c.args.y) c.loop-k.into c.loop-k.k nan long inv)
