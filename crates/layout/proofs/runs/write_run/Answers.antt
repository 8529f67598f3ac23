-- In one piece at once, else one more sample at a time.
use Rattle.std.proofs.Common.{◌≡◌, ◌+◌, ◌-◌, length, refl, arith}
use Rattle.layout.proofs.Strides.{reach_one, written_whole, written_next}
use Rattle.layout.proofs.runs.write_run.Goals as goal

pub returns-then-stride-eq1 : goal.returns-then-stride-eq1
returns-then-stride-eq1 c =
    let n = length c.args.from.now in
    let span : c.args.column + n - c.args.column ≡ n = omega arith in
    rw (span, c.copy_from_slice.ensures.after, c.if-stride-eq1.true) (written_whole c.args.samples.now c.args.from.now c.args.column n refl (reach_one _ _ (rw c.if-stride-eq1.true at c.requires.room)))

pub loop-k-preserved : goal.loop-k-preserved
loop-k-preserved c = written_next c.requires.wide (c.requires.room (c.args.column + c.loop-k.k) (omega arith)) c.loop-k.invariant
