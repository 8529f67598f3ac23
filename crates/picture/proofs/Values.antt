-- What is read of a picture: beyond its region, of a blank one, and by its rows.
use Rattle.std.proofs.Common.{◌≡◌, ℕ, Bool, true, false, cond, ◌&&◌, ltb, ℤ, arith}
use lib.Ieee.{Float}
use Rattle.std.proofs.lemmas.Int.{ints}
use Rattle.std.proofs.lemmas.Bool.Decides.{nat_tests}
use Rattle.sample.specs.Samples.{zero}
use Rattle.region.specs.Bounds.{is_span}
use Rattle.region.specs.Positions.{along}
use Rattle.region.proofs.Regions.{spans}
use Rattle.steps.specs.Gaps.{is_coordinate}
use Rattle.picture.specs.Meaning.{Meaning, value_at}
use Rattle.picture.specs.Steps.{crosses}

-- no axis has a coordinate that is no i32
along_off : (from at : ℤ) (size : ℕ) → is_span from size ≡ true → is_coordinate at ≡ false → along from size at ≡ false
along_off from at size s h = grind (arith, ints)

pub value_off_columns : (m : Meaning) (c : ℕ) (x y : ℤ) → is_coordinate x ≡ false → value_at m c x y ≡ zero
value_off_columns m c x y h = let off = along_off m.region.left x m.region.width (spans m.region).0 h in grind (arith, nat_tests)

pub value_off_lines : (m : Meaning) (c : ℕ) (x y : ℤ) → is_coordinate y ≡ false → value_at m c x y ≡ zero
value_off_lines m c x y h = let off = along_off m.region.top y m.region.height (spans m.region).1 h in grind (arith, nat_tests)

row_first : (a b d : Bool) (v w : Float) → cond (a && (b && d)) v w ≡ cond (a && d) (cond b v w) w
row_first a b d v w = grind (arith, nat_tests)

-- the row decides first, and then the column
pub value_by_rows : (m : Meaning) (c : ℕ) (x y : ℤ) → value_at m c x y ≡ cond (crosses m.channels m.region c y) (cond (along m.region.left m.region.width x) (m.at c x y) zero) zero
value_by_rows m c x y =
    row_first (ltb c m.channels) (along m.region.left m.region.width x) (along m.region.top m.region.height y) (m.at c x y) zero

pub value_off_rows : (m : Meaning) (c : ℕ) (x y : ℤ) → crosses m.channels m.region c y ≡ false → value_at m c x y ≡ zero
value_off_rows m c x y h = grind (arith, nat_tests)
