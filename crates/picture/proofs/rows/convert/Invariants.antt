-- The columns below the counter are written.
use Rattle.std.proofs.Common.{◌≡◌, ℕ, ◌<◌, map, get_or}
use lib.Ieee.{nan}
use Rattle.picture.proofs.rows.convert.Given as goal

abbrev pub invariant-loop-column : goal.invariant-loop-column
invariant-loop-column g l = (k : ℕ) → k < l.column → get_or l.into k nan ≡ get_or (map (λ s. g.T.Sample.value s l.full) l.row) k nan
