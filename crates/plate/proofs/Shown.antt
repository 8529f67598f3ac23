-- What is read of a plate's picture, by the numbers of its samples.
use Rattle.std.proofs.Common.{◌≡◌, ℕ, ◌+◌, ◌*◌, ◌^◌, ◌<◌, Bool, true, false, ◌&&◌, ltb, List, ℤ, pos, ◌-ℤ◌, nat_abs, sym, ap, ◌∙◌, arith}
use Rattle.std.proofs.lemmas.Int.{ints}
use Rattle.std.proofs.lemmas.Bool.{cond-true, cond-false}
use Rattle.sample.specs.Samples.{zero}
use Rattle.region.specs.Positions.{along, column_of, row_of}
use Rattle.picture.specs.Meaning.{value_at}
use Rattle.byte_fields.specs.Words.{float_at}
use Rattle.plate.specs.Format.{sides, sample_number, picture_of}
use Rattle.plate.proofs.Sides.{left_sides, top_sides, has_sides}

from_origin : (left at : ℤ) → left ≡ pos 0 → nat_abs at ≡ nat_abs (at -ℤ left)
from_origin left at e = let same : at ≡ at -ℤ left = omega (arith, ints) in ap nat_abs same

module _ (channels width height start : ℕ) (bytes : List ℕ) (w : width < 2 ^ 16) (h : height < 2 ^ 16) (c : ℕ) (x y : ℤ) where
  abbrev shown : Bool
  shown = ltb c channels && (along (pos 0) width x && along (pos 0) height y)

  number_at : sample_number width height c (nat_abs x) (nat_abs y) ≡ sample_number width height c (column_of (sides width height) x) (row_of (sides width height) y)
  number_at =
      ap (λ column. sample_number width height c column (nat_abs y)) (from_origin _ x (left_sides width height))
      ∙ ap (sample_number width height c (column_of (sides width height) x)) (from_origin _ y (top_sides width height))

  pub shown_value : (n : ℕ) → shown ≡ true → n ≡ sample_number width height c (nat_abs x) (nat_abs y) → float_at bytes (start + 4 * n) ≡ value_at (picture_of channels width height start bytes) c x y
  shown_value n inside e =
      ap (λ m. float_at bytes (start + 4 * m)) (e ∙ number_at)
      ∙ sym (cond-true _ _ zero (ap (λ b. ltb c channels && b) (has_sides width height w h x y) ∙ inside))

  pub off_value : shown ≡ false → zero ≡ value_at (picture_of channels width height start bytes) c x y
  off_value outside = sym (cond-false _ _ zero (ap (λ b. ltb c channels && b) (has_sides width height w h x y) ∙ outside))

-- pictures of the same numbers show the same
pub told_value : {n channels w width h height from start : ℕ} → n ≡ channels → w ≡ width → h ≡ height → from ≡ start → (bytes : List ℕ) (c : ℕ) (x y : ℤ) → value_at (picture_of n w h from bytes) c x y ≡ value_at (picture_of channels width height start bytes) c x y
told_value few wide high begins bytes c x y i = value_at (picture_of (few i) (wide i) (high i) (begins i) bytes) c x y
