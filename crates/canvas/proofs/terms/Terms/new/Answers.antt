-- The first kinds are those of the numbers.
use Rattle.std.proofs.Common.{rules, arith}
use Rattle.machine.specs.Checks.{kind_of}
use Rattle.canvas.proofs.Arrays.{mapped}
use Rattle.canvas.proofs.terms.Terms.new.Goals as goal

pub returns : goal.returns
returns c =
    let all = mapped kind_of _ _ c.args.kinds.now (λ i item q call. search rules) c.from_fn.result c.from_fn.ensures.items (omega arith) in
    search rules
