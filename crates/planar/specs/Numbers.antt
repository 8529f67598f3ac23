-- The numbers of places make an order.
use Rattle.std.proofs.Common.{arith}
use Rattle.layout.specs.Layout.{Numbers}
use Rattle.store.proofs.Inside.{inside_parts}
use Rattle.layout.proofs.Numbers.{number_below, digits_same}
use Rattle.planar.specs.Make.{planar_number}

pub planar_numbers : Numbers (λ columns rows _. planar_number columns rows) (λ _. 1)
planar_numbers = record {
  below = λ h p c r i. let at = inside_parts h p c r i in number_below at.0 at.2 at.1;
  apart = λ h p c r q d s i j e.
      let at = inside_parts h p c r i in
      let to = inside_parts h q d s j in
      let same = digits_same p q at.2 to.2 at.1 to.1 e in
      (same.0, same.2, same.1);
  along = λ columns rows planes p c r. omega arith;
  wide = λ planes some. omega arith;
}
