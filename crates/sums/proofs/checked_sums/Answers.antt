-- The floats compute; two rectangles meet by their axes.
use Rattle.std.proofs.Common.{refl, arith}
use lib.Ieee.{add, sub, mul, div, lt, of_bits}
use Rattle.std.proofs.lemmas.Int.{ints}
use Rattle.sums.proofs.checked_sums.Goals as goal

pub returns : goal.returns
unfolding add sub mul div lt of_bits
returns c =
    record {
      count = refl;
      hold = (
        refl,
        (
          refl,
          (
            refl,
            (
              refl,
              (refl, (refl, (refl, (refl, (refl, (λ x y. grind (arith, ints), (λ x y. grind (arith, ints), tt))))))),
            ),
          ),
        ),
      );
    }
