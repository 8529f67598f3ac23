-- Facts of parts of axes and regions, by their positions.
use Rattle.std.proofs.Common.{◌≡◌, ℕ, Bool, true, ◌&&◌, ℤ, pos, ◌+ℤ◌, ◌-ℤ◌, ◌≤ℤ◌, ap, ◌∙◌, arith}
use lib.Signed.{le_z, lt_z}
use Rattle.std.specs.Int.{int_max, int_min}
use Rattle.std.proofs.lemmas.Int.{ints, clamps}
use Rattle.region.specs.Bounds.{is_span}
use Rattle.region.specs.Positions.{along, has}
use Rattle.region.specs.declared.Region.{Region}
use Rattle.region.proofs.Regions.{and_exchange}

pub moved_along : (from by begin stop at : ℤ) (size : ℕ) → begin ≡ from +ℤ by → stop ≡ (from +ℤ pos size) +ℤ by → (le_z begin at && lt_z at stop) ≡ along from size (at -ℤ by)
moved_along from by begin stop at size e f = grind (arith, ints)

-- the coordinate nearest to another lies on the axis or at its end
nearest_on : (from z r : ℤ) (size : ℕ) → r ≡ int_max from (int_min z (from +ℤ pos size)) → (from ≤ℤ r) × (r ≤ℤ (from +ℤ pos size))
nearest_on from z r size e = (omega (arith, ints, clamps), omega (arith, ints, clamps))

between_nearest : (from begin stop first last at : ℤ) (size : ℕ) → first ≡ int_max from (int_min begin (from +ℤ pos size)) → last ≡ int_max from (int_min stop (from +ℤ pos size)) → (le_z first at && lt_z at last) ≡ (along from size at && (le_z begin at && lt_z at stop))
between_nearest from begin stop first last at size e f = grind (arith, ints, clamps)

-- from one coordinate as far as it is up to another
along_far : (first last at : ℤ) (k : ℕ) → pos k ≡ int_max (last -ℤ first) (pos 0) → along first k at ≡ (le_z first at && lt_z at last)
along_far first last at k g = grind (arith, ints, clamps)

span_far : (from first last : ℤ) (size k : ℕ) → is_span from size ≡ true → (from ≤ℤ first) × (first ≤ℤ (from +ℤ pos size)) → (from ≤ℤ last) × (last ≤ℤ (from +ℤ pos size)) → pos k ≡ int_max (last -ℤ first) (pos 0) → is_span first k ≡ true
span_far from first last size k p q r g = grind (arith, ints, clamps)

-- From where it is nearest to one coordinate up to where it is nearest to another, an axis has its positions between the two.
module _ (from begin stop first last : ℤ) (size k : ℕ) (e : first ≡ int_max from (int_min begin (from +ℤ pos size))) (f : last ≡ int_max from (int_min stop (from +ℤ pos size))) (g : pos k ≡ int_max (last -ℤ first) (pos 0)) where
  pub part_span : is_span from size ≡ true → is_span first k ≡ true
  part_span p = span_far from first last size k p (nearest_on from begin first size e) (nearest_on from stop last size f) g

  pub part_along : (at : ℤ) → along first k at ≡ (along from size at && (le_z begin at && lt_z at stop))
  part_along at = along_far first last at k g ∙ between_nearest from begin stop first last at size e f

-- the positions of a part, from those of its axes
pub part_has : (r : Region) (left right top bottom x y : ℤ) (across down : Bool) → across ≡ (along r.left r.width x && (le_z left x && lt_z x right)) → down ≡ (along r.top r.height y && (le_z top y && lt_z y bottom)) → (across && down) ≡ (has r x y && ((le_z left x && lt_z x right) && (le_z top y && lt_z y bottom)))
part_has r left right top bottom x y across down e f =
    ap (λ b. b && down) e
    ∙ ap (λ b. (along r.left r.width x && (le_z left x && lt_z x right)) && b) f
    ∙ and_exchange (along r.left r.width x) (le_z left x && lt_z x right) (along r.top r.height y) (le_z top y && lt_z y bottom)
