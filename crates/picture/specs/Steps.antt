-- Words of the inner contracts, for steps along rows; what a picture means is said without them.
use Rattle.std.specs.Prelude.{ℕ, Bool, cond, ◌&&◌, List, map, length, ℤ, ◌-ℤ◌, nat_lt, slice_index_or, unsigned_abs, Float}
use Rattle.sample.specs.Samples.{zero}
use Rattle.region.specs.Positions.{along}
use Rattle.region.specs.declared.Region.{Region}

-- whether a channel has a row at this coordinate
abbrev pub crosses : ℕ → Region → (channel : ℕ) → ℤ → Bool
crosses channels region channel y = nat_lt channel channels && along region.top region.height y

-- what a row that begins at the coordinate left holds at x; 0.0 where it does not reach
abbrev pub row_at : {X : Type 0} → (X → Float) → ℤ → List X → ℤ → Float
row_at value left row x = cond (along left (length row) x) (slice_index_or (map value row) (unsigned_abs (x -ℤ left)) zero) zero
