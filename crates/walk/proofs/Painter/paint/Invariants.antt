-- The columns before the next are painted, up to the end.
use Rattle.std.proofs.Common.{◌≤◌, min, ◌&&◌}
use Rattle.store.specs.Held.{Changed}
use Rattle.walk.specs.Rectangles.{in_line}
use Rattle.walk.proofs.Painter.paint.Given as goal

abbrev pub invariant-loop-next : goal.invariant-loop-next
invariant-loop-next g l =
    (l.column ≤ l.next)
    × Changed (g.S.Store.held l.initial.store) (g.S.Store.held l.store)
    (λ p c r. g.Self.Painter.touches l.self p && in_line l.column (min l.next l.end) l.row c r)
    (g.Self.Painter.value l.self (g.P.Picture.meaning l.picture) (g.S.Store.held l.initial.store))
