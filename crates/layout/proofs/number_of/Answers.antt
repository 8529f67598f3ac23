-- Where the first two digits pass 64 bits, so does the number.
use Rattle.std.proofs.Common.{arith}
use Rattle.layout.proofs.Numbers.{high_le}
use Rattle.layout.proofs.number_of.Goals as goal

pub returns-in_err-high : goal.returns-in_err-high
returns-in_err-high c =
    rw c.from_residual-in_err-high.ensures
    (λ _. omega (arith, c.in_err-high.ensures, c.in_ok-checked_mul.ensures, high_le c.args.slow.0 c.args.middle.0 c.args.middle.1 c.args.fast.0 c.args.fast.1 c.if-fast.false))
