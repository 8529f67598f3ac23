-- Facts of axes and regions by their positions.
use Rattle.std.proofs.Common.{◌≡◌, ℕ, ◌<◌, Bool, true, false, ◌&&◌, ◌||◌, ltb, ℤ, pos, ◌+ℤ◌, ◌-ℤ◌, ◌≤ℤ◌, nat_abs, neg_ℤ, Decides, refl, ⊎_elim, arith}
use Rattle.std.specs.Int.{int_max, int_min}
use Rattle.std.proofs.lemmas.Int.{ints, clamps}
use Rattle.std.proofs.lemmas.Bool.{and_parts, and_from, and_left, eqb-true, lt-ltb, both_ways, cases_Bool, or_cases, or_left, or_right}
use Rattle.std.proofs.lemmas.Bool.Decides.{nat_tests}
use Rattle.region.specs.Bounds.{is_span, is_region}
use Rattle.region.specs.Positions.{along, within, has, is_empty, Holds, can_move}
use Rattle.region.specs.declared.Region.{Region}

pub along_none : (from at : ℤ) (size : ℕ) → size ≡ 0 → along from size at ≡ false
along_none from at size e = grind (arith, ints)

pub along-first : (from : ℤ) (size : ℕ) → 0 < size → along from size from ≡ true
along-first from size h = grind (arith, ints)

-- the last position of an axis that has one
abbrev last_of : ℤ → ℕ → ℤ
last_of from size = from +ℤ (pos size +ℤ neg_ℤ (pos 1))

along-last : (from : ℤ) (size : ℕ) → 0 < size → along from size (last_of from size) ≡ true
along-last from size h = grind (arith, ints)

pub along_moved : (from by at : ℤ) (size : ℕ) → along (from +ℤ by) size (at +ℤ by) ≡ along from size at
along_moved from by at size = grind (arith, ints)

pub along-within : (from : ℤ) (size : ℕ) (at : ℤ) (n : ℕ) (x : ℤ) → within from size at n ≡ true → along at n x ≡ true → along from size x ≡ true
along-within from size at n x w h = grind (arith, ints)

-- an axis whose first and last positions another has lies within it
pub within_ends : (from : ℤ) (size : ℕ) (at : ℤ) (n : ℕ) → along from size at ≡ true → along from size (last_of at n) ≡ true → within from size at n ≡ true
within_ends from size at n p q = grind (arith, ints)

-- a region that is not empty has two sides
pub sides : (r : Region) → is_empty r ≡ false → (0 < r.width) × (0 < r.height)
sides r e = grind (arith, ints, nat_tests)

pub spans : (r : Region) → (is_span r.left r.width ≡ true) × (is_span r.top r.height ≡ true)
spans r = and_parts _ _ (and_parts (is_span r.left r.width && is_span r.top r.height) _ r.ok).0

-- two axes that fit, neither of them empty, make a region
pub of_spans : (left top : ℤ) (width height : ℕ) → is_span left width ≡ true → is_span top height ≡ true → 0 < width → 0 < height → is_region left top width height ≡ true
of_spans left top width height p q w h =
    and_from _ _ (and_from _ _ p q) (or_left (ltb 0 width && ltb 0 height) _ (and_from _ _ (lt-ltb 0 width w) (lt-ltb 0 height h)))

pub empty_has : (r : Region) (x y : ℤ) → is_empty r ≡ true → has r x y ≡ false
empty_has r x y e = and_left _ _ (along_none r.left x r.width (eqb-true r.width 0 e))

pub first-has : (r : Region) → is_empty r ≡ false → has r r.left r.top ≡ true
first-has r e = and_from _ _ (along-first r.left r.width (sides r e).0) (along-first r.top r.height (sides r e).1)

pub last_has : (r : Region) → is_empty r ≡ false → has r (last_of r.left r.width) (last_of r.top r.height) ≡ true
last_has r e = and_from _ _ (along-last r.left r.width (sides r e).0) (along-last r.top r.height (sides r e).1)

-- from one coordinate it is as far as they differ up to a greater one
pub far_up : (from to : ℤ) (k : ℕ) → from ≤ℤ to → k ≡ nat_abs (to -ℤ from) → to ≡ from +ℤ pos k
far_up from to k up e = grind (arith, ints)

pub overlap_along : (a b from to at : ℤ) (m n k : ℕ) → from ≡ int_max a b → to ≡ int_max (int_min (a +ℤ pos m) (b +ℤ pos n)) from → to ≡ from +ℤ pos k → along from k at ≡ (along a m at && along b n at)
overlap_along a b from to at m n k e f g = grind (arith, ints, clamps)

pub overlap_span : (a b from to : ℤ) (m n k : ℕ) → is_span a m ≡ true → is_span b n ≡ true → from ≡ int_max a b → to ≡ int_max (int_min (a +ℤ pos m) (b +ℤ pos n)) from → to ≡ from +ℤ pos k → is_span from k ≡ true
overlap_span a b from to m n k p q e f g = grind (arith, ints, clamps)

-- what `contains` tests says whether every position of the second is one of the first
pub covers_decides : (r s : Region) → Decides (is_empty s || (within r.left r.width s.left s.width && within r.top r.height s.top s.height)) (Holds r s)
covers_decides r s = (
  λ t x y h.
      ⊎_elim
      (λ e. absurd (both_ways _ (empty_has s x y e) h))
      (λ w.
      let ways = and_parts _ _ w in
      let here = and_parts _ _ h in
      and_from _ _ (along-within r.left r.width s.left s.width x ways.0 here.0)
      (along-within r.top r.height s.top s.height y ways.1 here.1))
      (or_cases (is_empty s) _ t),
  λ h.
      ⊎_elim (or_left (is_empty s) _)
      (λ e.
      let first = and_parts _ _ (h s.left s.top (first-has s e)) in
      let last = and_parts _ _ (h _ _ (last_has s e)) in
      or_right (is_empty s) _
      (and_from _ _ (within_ends r.left r.width s.left s.width first.0 last.0)
      (within_ends r.top r.height s.top s.height first.1 last.1)))
      (cases_Bool (is_empty s)),
)

-- the positions of both axes of both regions, either way round
pub and_exchange : (a b c d : Bool) → ((a && b) && (c && d)) ≡ ((a && c) && (b && d))
and_exchange true true c d = refl
and_exchange true false true d = refl
and_exchange true false false d = refl
and_exchange false b c d = refl

-- a region that is not empty can be moved if both its axes can, and only then
module _ (r : Region) (x y : ℤ) (e : is_empty r ≡ false) where
  pub filled_moves : is_span (r.left +ℤ x) r.width ≡ true → is_span (r.top +ℤ y) r.height ≡ true → can_move r x y ≡ true
  filled_moves p q = or_right (is_empty r) _ (of_spans (r.left +ℤ x) (r.top +ℤ y) r.width r.height p q (sides r e).0 (sides r e).1)

  pub across_stays : is_span (r.left +ℤ x) r.width ≡ false → can_move r x y ≡ false
  across_stays h = grind arith

  pub down_stays : is_span (r.top +ℤ y) r.height ≡ false → can_move r x y ≡ false
  down_stays h = grind arith
