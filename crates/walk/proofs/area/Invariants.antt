-- The rows above are painted.
use Rattle.std.proofs.Common.{◌≡◌, ◌<◌, ◌&&◌}
use Rattle.store.specs.Held.{Changed}
use Rattle.walk.specs.Rectangles.{in_area}
use Rattle.walk.proofs.area.Given as goal

abbrev pub invariant-loop-row : goal.invariant-loop-row
invariant-loop-row g l =
    (l.area.bottom < l.area.top → l.row ≡ l.area.top)
    × Changed (g.S.Store.held l.initial.store) (g.S.Store.held l.store)
    (λ p c r. g.B.Painter.touches l.painter p && in_area (record l.area { bottom = l.row }) c r)
    (g.B.Painter.value l.painter (g.P.Picture.meaning l.picture) (g.S.Store.held l.initial.store))
