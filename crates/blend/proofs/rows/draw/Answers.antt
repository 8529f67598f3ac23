-- One column more is drawn, by what the kernel made of it; the columns past the last that all rows have stay.
use Rattle.std.proofs.Common.{arith}
use Rattle.blend.proofs.Steps.{row_more, row_whole}
use Rattle.blend.proofs.rows.draw.Goals as goal

pub loop-column-preserved : goal.loop-column-preserved
loop-column-preserved g c = λ made post.
    row_more made _ c.loop-column.sample-items _ _ _ c.loop-column.column c.kernel.result (omega arith)
    (c.loop-column.invariant made post) (post _ _ c.kernel.ensures)

pub returns : goal.returns
returns g c = λ made post.
    row_whole made c.args.base.now _ _ _ c.loop-column.sample-items c.min-count.result c.loop-column.column (omega arith) (omega arith) (omega arith)
    (c.loop-column.invariant made post) _ (omega arith)
