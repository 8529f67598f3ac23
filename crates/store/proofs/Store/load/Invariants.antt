-- The samples so far are the store's.
use Rattle.std.proofs.Common.{◌≡◌, ℕ, ◌+◌, ◌<◌, get_or}
use lib.Ieee.{nan}
use Rattle.store.specs.Held.{seen}
use Rattle.store.proofs.Store.load.Given as goal

abbrev pub invariant-loop-k : goal.invariant-loop-k
invariant-loop-k g l = (j : ℕ) → j < l.k → get_or l.into j nan ≡ seen (g.Self.Store.held l.self) l.plane (l.column + j) l.row
