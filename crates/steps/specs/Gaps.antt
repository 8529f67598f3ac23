-- Coordinates along an axis.
use Rattle.std.specs.Prelude.{ℕ, Bool, cond, ◌&&◌, ℤ, ◌-ℤ◌, int_le, int_lt, unsigned_abs}
use Rattle.region.specs.Bounds.{least_coordinate, greatest_coordinate}

-- whether it is an i32, as all coordinates of regions are
abbrev pub is_coordinate : ℤ → Bool
is_coordinate at = int_le least_coordinate at && int_le at greatest_coordinate

-- how far it is from one coordinate up to another; 0 where that comes first
abbrev pub gap_of : ℤ → ℤ → ℕ
gap_of from to = cond (int_lt from to) (unsigned_abs (to -ℤ from)) 0
