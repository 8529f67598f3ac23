-- The runs of the channels before are saved.
use Rattle.std.proofs.Common.{◌+◌, ◌-◌, ◌&&◌}
use Rattle.store.specs.Held.{Changed}
use Rattle.walk.specs.Rectangles.{in_line}
use Rattle.drawing.specs.Runs.{room_at, touches_below}
use Rattle.drawing.proofs.runs.scatter.Given as goal

abbrev pub invariant-loop-channel : goal.invariant-loop-channel
invariant-loop-channel g l =
    Changed (g.S.Store.held l.initial.store) (g.S.Store.held l.store)
    (λ p c r. touches_below l.channel l.drawing p && in_line l.run.column (l.run.column + l.run.count) l.run.row c r)
    (λ p c r. room_at l.made (p - l.drawing.first) (c - l.run.column))
