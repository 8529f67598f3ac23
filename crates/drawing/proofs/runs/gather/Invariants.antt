-- The runs of the channels before are made.
use Rattle.std.proofs.Common.{◌≡◌, length}
use Rattle.drawing.specs.Runs.{MadeBelow}
use Rattle.drawing.proofs.runs.gather.Given as goal

abbrev pub invariant-loop-channel : goal.invariant-loop-channel
invariant-loop-channel g l =
    (length l.made ≡ 11)
    × MadeBelow l.channel l.drawing (g.P.Picture.meaning l.picture) (g.S.Store.held l.store) l.run.column l.run.row l.run.count l.made
