-- The first infos are those of the records.
use Rattle.std.proofs.Common.{rules, arith}
use Rattle.machine.specs.Checks.{frame_info}
use Rattle.canvas.proofs.Arrays.{mapped}
use Rattle.canvas.proofs.terms.OpenFrame.new.Goals as goal

pub returns : goal.returns
returns c =
    let all = mapped frame_info _ _ c.args.records.now (λ i item q call. search rules) c.from_fn.result c.from_fn.ensures.items (omega arith) in
    search rules
