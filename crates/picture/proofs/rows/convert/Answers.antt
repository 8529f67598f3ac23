-- The buffer is as long as the row, and each of its places is written.
use Rattle.std.proofs.Common.{arith}
use lib.Ieee.{nan}
use Rattle.std.proofs.lemmas.List.{ext_get_or, length-map}
use Rattle.picture.proofs.rows.convert.Goals as goal

pub returns : goal.returns
returns g c = ext_get_or nan _ _ (simp length-map (omega arith)) (λ k h. c.loop-column.invariant k (omega arith))
