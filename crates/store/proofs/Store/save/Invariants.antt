-- The run so far is written.
use Rattle.std.proofs.Common.{◌-◌, get_or}
use lib.Ieee.{nan}
use Rattle.store.specs.Held.{in_run, Changed}
use Rattle.store.proofs.Store.save.Given as goal

abbrev pub invariant-loop-k : goal.invariant-loop-k
invariant-loop-k g l =
    Changed (g.Self.Store.held l.initial.self) (g.Self.Store.held l.self) (in_run l.plane l.column l.row l.k) (λ _ d _. get_or l.from (d - l.column) nan)
