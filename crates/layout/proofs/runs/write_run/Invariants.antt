-- The run so far is written.
use Rattle.layout.specs.Strides.{IsWritten}
use Rattle.layout.proofs.runs.write_run.Given as goal

abbrev pub invariant-loop-k : goal.invariant-loop-k
invariant-loop-k l = IsWritten l.initial.samples l.samples l.column l.stride l.from l.k
