-- The numbers of places make an order, and no run is lent.
use Rattle.std.proofs.Common.{◌≡◌, ℕ, true, false, arith}
use Rattle.std.proofs.lemmas.Bool.{false≢true}
use Rattle.layout.specs.Layout.{Numbers}
use Rattle.store.proofs.Inside.{inside_parts}
use Rattle.layout.proofs.Numbers.{number_below, digits_same}
use Rattle.interleaved.specs.Make.{interleaved_number}

pub interleaved_numbers : Numbers (λ columns _ planes. interleaved_number columns planes) (λ planes. planes)
interleaved_numbers = record {
  below = λ h p c r i. let at = inside_parts h p c r i in omega (arith, number_below at.2 at.1 at.0);
  apart = λ h p c r q d s i j e.
      let at = inside_parts h p c r i in
      let to = inside_parts h q d s j in
      let same = digits_same r s at.1 to.1 at.0 to.0 e in
      (same.2, same.1, same.0);
  along = λ columns rows planes p c r. omega arith;
  wide = λ planes some. some;
}

pub none_lent : false ≡ true → (planes : ℕ) → planes ≡ 1
none_lent lends planes = absurd (false≢true lends)
