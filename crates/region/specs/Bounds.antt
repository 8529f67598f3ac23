-- Which numbers make a region, and the limits of the regions, frames and places that a stage works on.
use Rattle.std.specs.Prelude.{ℕ, Bool, ◌&&◌, ◌||◌, ℤ, pos, ◌+ℤ◌, neg_ℤ, ◌==◌, int_le, nat_le, nat_lt}

-- the least and the greatest i32
abbrev pub least_coordinate : ℤ
least_coordinate = neg_ℤ (pos 2147483648)

abbrev pub greatest_coordinate : ℤ
greatest_coordinate = pos 2147483647

-- one axis of a region: it begins at an i32 and ends, one past its last position, at one
abbrev pub is_span : ℤ → ℕ → Bool
is_span from size = int_le least_coordinate from && int_le (from +ℤ pos size) greatest_coordinate

-- neither side is 0, or all four numbers are
abbrev pub is_filled_or_empty : ℤ → ℤ → ℕ → ℕ → Bool
is_filled_or_empty left top width height =
    (nat_lt 0 width && nat_lt 0 height) || ((width == 0 && height == 0) && ((int_le left (pos 0) && int_le (pos 0) left) && (int_le top (pos 0) && int_le (pos 0) top)))

abbrev pub is_region : ℤ → ℤ → ℕ → ℕ → Bool
is_region left top width height = (is_span left width && is_span top height) && is_filled_or_empty left top width height

-- the sides, and the lefts and tops, that a stage works on
abbrev pub side_allowed : ℕ → Bool
side_allowed side = nat_le 1 side && nat_le side 16384

abbrev pub place_allowed : ℤ → Bool
place_allowed at = int_le (neg_ℤ (pos 1048576)) at && int_le at (pos 1048576)
