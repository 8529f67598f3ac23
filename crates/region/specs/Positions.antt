-- A region by its positions.
use Rattle.std.specs.Prelude.{◌≡◌, ℕ, Bool, true, ◌&&◌, ◌||◌, ℤ, pos, ◌+ℤ◌, ◌-ℤ◌, ◌==◌, int_le, int_lt, unsigned_abs}
use Rattle.region.specs.Bounds.{is_region, side_allowed, place_allowed}
use Rattle.region.specs.declared.Region.{Region}

-- whether a coordinate lies among the `size` ones from `from` on
abbrev pub along : ℤ → ℕ → ℤ → Bool
along from size at = int_le from at && int_lt at (from +ℤ pos size)

-- whether one axis lies within another
abbrev pub within : ℤ → ℕ → ℤ → ℕ → Bool
within from size at n = int_le from at && int_le (at +ℤ pos n) (from +ℤ pos size)

-- whether a position is one of the region's
abbrev pub has : Region → ℤ → ℤ → Bool
has r x y = along r.left r.width x && along r.top r.height y

-- the column and the row of a position that the region has
abbrev pub column_of : Region → ℤ → ℕ
column_of region x = unsigned_abs (x -ℤ region.left)

abbrev pub row_of : Region → ℤ → ℕ
row_of region y = unsigned_abs (y -ℤ region.top)

abbrev pub is_empty : Region → Bool
is_empty r = r.width == 0

-- every position of the second is one of the first
abbrev pub Holds : Region → Region → Type 0
Holds r s = (x y : ℤ) → has s x y ≡ true → has r x y ≡ true

-- whether a region can be moved and be a region still; the empty one can always
abbrev pub can_move : Region → ℤ → ℤ → Bool
can_move r x y = is_empty r || is_region (r.left +ℤ x) (r.top +ℤ y) r.width r.height

-- a stage works on a region with these sides at this place
abbrev pub is_allowed : Region → Bool
is_allowed r = (side_allowed r.width && side_allowed r.height) && (place_allowed r.left && place_allowed r.top)
