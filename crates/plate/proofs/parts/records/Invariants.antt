-- The records below the counter are there.
use Rattle.std.proofs.Common.{◌≡◌, map}
use Rattle.std.specs.List.{range_with_len}
use Rattle.plate.specs.Format.{record_at}
use Rattle.plate.proofs.parts.records.Given as goal

abbrev pub invariant-loop-k : goal.invariant-loop-k
invariant-loop-k l = l.records.items ≡ map (record_at l.bytes) (range_with_len 0 l.k)
