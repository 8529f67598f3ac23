-- The places below the counter hold the row.
use Rattle.std.proofs.Common.{◌≡◌, ℕ, ◌<◌, get_or, pos, ◌+ℤ◌}
use lib.Ieee.{nan}
use Rattle.picture.specs.Meaning.{value_at}
use Rattle.picture.proofs.Picture.fill_far.Given as goal

abbrev pub invariant-loop-k : goal.invariant-loop-k
invariant-loop-k g l = (k : ℕ) → k < l.k → get_or l.into k nan ≡ value_at (g.Self.Picture.meaning l.self) l.channel (l.x +ℤ pos k) l.y
