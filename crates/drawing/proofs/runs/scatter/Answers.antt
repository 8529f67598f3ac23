-- One channel more, if it has a stroke.
use Rattle.std.proofs.Common.{rules, ◌≡◌, ◌+◌, ◌-◌, ◌&&◌, take, get_or, length, is_some, true, false, refl, ap, arith}
use Rattle.std.specs.Prelude.{[]}
use Rattle.std.proofs.lemmas.List.{get_or-take}
use Rattle.store.proofs.Changes.{changed_like}
use Rattle.walk.specs.Rectangles.{in_line}
use Rattle.drawing.specs.Layers.{stroke_of}
use Rattle.drawing.specs.Runs.{touches_below}
use Rattle.drawing.proofs.Saves.{saved, saved_more, touch_same}
use Rattle.drawing.proofs.runs.scatter.Goals as goal
use Rattle.drawing.proofs.runs.scatter.Goals.{then-is_some, else-is_some}

pub loop-channel-preserved : goal.loop-channel-preserved
loop-channel-preserved g c =
    let d = c.args.drawing.now in
    let n = c.loop-channel.channel in
    let room = c.args.made.now in
    let run = c.args.run in
    let part = take (run.count - 0) (get_or room n []) in
    elim c.if-is_some.branch [
      | then-is_some w ↦
          let some : is_some (stroke_of d n) ≡ true = search rules in
          let long : length part ≡ run.count = search rules in
          let h = saved_more {e = g.S.Store.held w.save.new.self} d n run.column run.row run.count room part w.save.result some c.requires long
          (λ k k<. search (get_or-take, arith)) c.loop-channel.invariant w.save.ensures.said w.save.ensures.places in simp w.store-is h
      | else-is_some w ↦
          let none : is_some (stroke_of d n) ≡ false = search rules in
          let h = changed_like c.loop-channel.invariant (λ p c' r. touches_below (n + 1) d p && in_line run.column (run.column + run.count) run.row c' r) (saved d run.column room)
          (λ p c' r _. ap (λ t. t && in_line run.column (run.column + run.count) run.row c' r) (touch_same d n none p)) (λ p c' r _ _. refl) in simp w.store-is h
    ]
