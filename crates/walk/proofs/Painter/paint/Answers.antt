-- One run more; what the store lacks stays.
use Rattle.std.proofs.Common.{rules, ◌+◌, min, arith}
use Rattle.walk.proofs.Walks.{row_on}
use Rattle.walk.proofs.Painter.paint.Goals as goal

pub loop-next-preserved : goal.loop-next-preserved
loop-next-preserved g c =
    let next = c.loop-next.next in
    let end = c.min-end.result in (
      omega arith,
      row_on (g.Self.Painter.touches c.args.self.now) (g.Self.Painter.value c.args.self.now (g.P.Picture.meaning c.args.picture.now)) c.args.column (min next end) next c.min.result (min (next + 128) end) c.args.row
          (g.met.Self.Painter.local _ _) (omega arith) (omega arith) (omega arith) c.loop-next.invariant.1 c.paint_run.ensures,
    )

pub returns-2 : goal.returns-2
returns-2 g c =
    let next = c.loop-next.next in
    let end = c.min-end.result in
    let all =
    row_on (g.Self.Painter.touches c.args.self.now) (g.Self.Painter.value c.args.self.now (g.P.Picture.meaning c.args.picture.now)) c.args.column (min next end) next c.min.result end c.args.row
    (g.met.Self.Painter.local _ _) (omega arith) (omega arith) (omega arith) c.loop-next.invariant.1 c.paint_run.ensures
    in search rules
