-- The region that two sides make.
use Rattle.std.proofs.Common.{◌≡◌, ℕ, ◌^◌, ◌<◌, ◌≤◌, Bool, true, false, ◌&&◌, ℤ, pos, sym, refl, ◌∙◌, ⊎_elim, arith}
use mathlib.Core.Bool.{Bool-set}
use mathlib.Core.HLevel.{is_prop→PathP}
use Rattle.std.proofs.lemmas.Int.{ints}
use Rattle.std.proofs.lemmas.Bool.{and_left, and_right, both_ways, cases_lt}
use Rattle.std.proofs.lemmas.Bool.Decides.{nat_tests}
use Rattle.region.specs.Bounds.{is_region, is_span}
use Rattle.region.specs.Positions.{along, has, is_empty}
use Rattle.region.specs.declared.Region.{Region}
use Rattle.region.proofs.Regions.{along_none, of_spans}
use Rattle.plate.specs.Format.{sides_if, sides}

-- regions with the same four numbers are the same
same_region : (r s : Region) → r.left ≡ s.left → r.top ≡ s.top → r.width ≡ s.width → r.height ≡ s.height → r ≡ s
same_region r s left top width height i =
    record {
      left = left i;
      top = top i;
      width = width i;
      height = height i;
      ok = is_prop→PathP (λ j. is_region (left j) (top j) (width j) (height j) ≡ true) (λ j. Bool-set (is_region (left j) (top j) (width j) (height j)) true) r.ok s.ok i;
    }

empty_numbers : (r : Region) → is_empty r ≡ true → (r.left ≡ pos 0) × (r.top ≡ pos 0) × (r.width ≡ 0) × (r.height ≡ 0)
empty_numbers r e = (grind (arith, ints, nat_tests), grind (arith, ints, nat_tests), grind (arith, ints, nat_tests), grind (arith, ints, nat_tests))

span : (size : ℕ) → size < 2 ^ 16 → is_span (pos 0) size ≡ true
span size h = grind (arith, ints)

module _ (width height : ℕ) where
  abbrev makes : Bool
  makes = is_region (pos 0) (pos 0) width height

  made_if : (r : Region) → r.left ≡ pos 0 → r.top ≡ pos 0 → r.width ≡ width → r.height ≡ height → (b : Bool) (q : makes ≡ b) → r ≡ sides_if width height b q
  made_if r left top wide high true q = same_region r (sides_if width height true q) left top wide high
  made_if r left top wide high false q =
      let test : is_region r.left r.top r.width r.height ≡ makes = λ i. is_region (left i) (top i) (wide i) (high i) in
      absurd (both_ways makes q (sym test ∙ r.ok))

  empty_if : (r : Region) → makes ≡ false → is_empty r ≡ true → (b : Bool) (q : makes ≡ b) → r ≡ sides_if width height b q
  empty_if r none empty true q = absurd (both_ways makes none q)
  empty_if r none empty false q = let zeros = empty_numbers r empty in same_region r (sides_if width height false q) zeros.0 zeros.1 zeros.2 zeros.3

  pub made_region : (r : Region) → r.left ≡ pos 0 → r.top ≡ pos 0 → r.width ≡ width → r.height ≡ height → r ≡ sides width height
  unfolding sides
  made_region r left top wide high = made_if r left top wide high makes refl

  pub no_region : (r : Region) → makes ≡ false → is_empty r ≡ true → r ≡ sides width height
  unfolding sides
  no_region r none empty = empty_if r none empty makes refl

  left_if : (b : Bool) (q : makes ≡ b) → (sides_if width height b q).left ≡ pos 0
  left_if true q = refl
  left_if false q = refl

  top_if : (b : Bool) (q : makes ≡ b) → (sides_if width height b q).top ≡ pos 0
  top_if true q = refl
  top_if false q = refl

  pub left_sides : (sides width height).left ≡ pos 0
  unfolding sides
  left_sides = left_if makes refl

  pub top_sides : (sides width height).top ≡ pos 0
  unfolding sides
  top_sides = top_if makes refl

  -- without a side there is no position
  no_position : width < 2 ^ 16 → height < 2 ^ 16 → makes ≡ false → (x y : ℤ) → (along (pos 0) width x && along (pos 0) height y) ≡ false
  no_position w h none x y =
      ⊎_elim
      (λ (wide : 0 < width).
      ⊎_elim (λ (high : 0 < height). absurd (both_ways makes none (of_spans (pos 0) (pos 0) width height (span width w) (span height h) wide high)))
      (λ (low : height ≤ 0). and_right _ _ (along_none (pos 0) y height (omega arith)))
      (cases_lt 0 height))
      (λ (thin : width ≤ 0). and_left _ _ (along_none (pos 0) x width (omega arith)))
      (cases_lt 0 width)

  has_if : width < 2 ^ 16 → height < 2 ^ 16 → (x y : ℤ) (b : Bool) (q : makes ≡ b) → has (sides_if width height b q) x y ≡ (along (pos 0) width x && along (pos 0) height y)
  has_if w h x y true q = refl
  has_if w h x y false q = and_left _ _ (along_none (pos 0) x 0 refl) ∙ sym (no_position w h q x y)

  pub has_sides : width < 2 ^ 16 → height < 2 ^ 16 → (x y : ℤ) → has (sides width height) x y ≡ (along (pos 0) width x && along (pos 0) height y)
  unfolding sides
  has_sides w h x y = has_if w h x y makes refl
