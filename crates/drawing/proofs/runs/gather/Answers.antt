-- One channel more, if it has a stroke.
use Rattle.std.proofs.Common.{rules, ◌≡◌, ℕ, ◌+◌, ◌<◌, length, true, false, Some, is_some, ap, ◌∙◌, arith}
use Rattle.std.specs.Prelude.{Float}
use Rattle.std.proofs.lemmas.Bool.{both_ways}
use Rattle.drawing.specs.Layers.{stroke_of, stroke_or}
use Rattle.drawing.specs.Runs.{MadeBelow, room_at}
use Rattle.drawing.proofs.Made.{room_more, room_same}
use Rattle.drawing.proofs.runs.gather.Goals as goal
use Rattle.drawing.proofs.runs.gather.Goals.{in-Some, in_default}

pub loop-channel-preserved : goal.loop-channel-preserved
loop-channel-preserved g c =
    let d = c.args.drawing.now in
    let n = c.loop-channel.channel in
    let made = c.loop-channel.made in
    let run = c.args.run in
    let h = g.S.Store.held c.args.store.now in
    let m = g.P.Picture.meaning c.args.picture.now in
    let f : ℕ → ℕ → Float = λ ch k. stroke_or (stroke_of d ch) d.new d.colors m h ch (run.column + k) run.row in
    elim c.match-stroke.branch [
      | in-Some w ↦
          let fits : n < length made = omega (arith, c.loop-channel.invariant.0) in
          let has : stroke_of d n ≡ Some w.in-Some.stroke = search rules in
          let long : length w.make.new.into ≡ run.count = search rules in
          let all : MadeBelow (n + 1) d m h run.column run.row run.count c.match-stroke.made =
          λ ch k c< k< some.
          ap (λ room. room_at room ch k) w.made-is
          ∙ room_more f (λ j. is_some (stroke_of d j) ≡ true) made n run.count c.loop-channel.invariant.1 w.make.new.into _ fits long (λ j j<. rw has (w.make.ensures j (omega arith))) ch k c< k< some in
          (search rules, all)
      | in_default w ↦
          let none : is_some (stroke_of d n) ≡ false = search rules in
          let all : MadeBelow (n + 1) d m h run.column run.row run.count c.match-stroke.made =
          λ ch k c< k< some.
          ap (λ room. room_at room ch k) w.made-is
          ∙ room_same f (λ j. is_some (stroke_of d j) ≡ true) made n run.count c.loop-channel.invariant.1 (both_ways _ none) ch k c< k< some in
          (search rules, all)
    ]
