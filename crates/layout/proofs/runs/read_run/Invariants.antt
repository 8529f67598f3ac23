-- The samples so far are those of the row.
use Rattle.std.proofs.Common.{◌≡◌, ℕ, ◌+◌, ◌*◌, ◌<◌, get_or}
use lib.Ieee.{nan}
use Rattle.layout.proofs.runs.read_run.Given as goal

abbrev pub invariant-loop-k : goal.invariant-loop-k
invariant-loop-k l = (j : ℕ) → j < l.k → get_or l.into j nan ≡ get_or l.samples ((l.column + j) * l.stride) nan
