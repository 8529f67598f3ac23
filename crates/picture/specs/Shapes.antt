-- Grids: how samples lie in a slice, which slices and depths are refused, and what a grid means.
use Rattle.std.specs.Prelude.{ℕ, ◌+◌, ◌-◌, ◌*◌, ◌^◌, Bool, cond, ◌&&◌, ◌||◌, List, map, take, drop, Some, None, Option, ◌==◌, nat_le, nat_lt, slice_index_or, Float}
use Rattle.refusal.specs.declared.Refusal.{Refusal}
use Rattle.refusal.specs.declared.Refusal.TheVariants.{GridShape, SampleDepth}
use Rattle.sample.specs.Samples.{zero}
use Rattle.region.specs.Positions.{column_of, row_of}
use Rattle.region.specs.declared.Region.{Region}
use Rattle.picture.specs.Meaning.{Meaning}

-- one to eleven channels, no side above the longest, and a sample for each channel and position
abbrev pub shape_allowed : ℕ → Region → ℕ → Bool
shape_allowed channels region samples =
    (nat_le 1 channels && nat_le channels 11)
    && ((nat_le region.width 16384 && nat_le region.height 16384) && samples == channels * region.height * region.width)

-- A kind with depths takes those from 1 to its deepest; one without takes only 0.
-- No kind goes deeper than 24 bits, up to which f32 counts without a gap.
abbrev pub depth_allowed : (deepest depth : ℕ) → Bool
depth_allowed deepest depth = (nat_le depth deepest && nat_le depth 24) && (nat_lt 0 depth || deepest == 0)

-- why a grid is refused: its shape is looked at first, then depth and samples
abbrev pub grid_refusal : (shape content : Bool) → Option Refusal
grid_refusal shape content = cond shape (cond content None (Some SampleDepth)) (Some GridShape)

-- the largest sample of a depth
abbrev pub full_of : ℕ → ℕ
full_of depth = 2 ^ depth - 1

-- whether there is such a row, where it begins among the samples, and what it holds
abbrev pub has_row : ℕ → Region → (channel row : ℕ) → Bool
has_row channels region channel row = nat_lt channel channels && nat_lt row region.height

abbrev pub row_start : Region → (channel row : ℕ) → ℕ
row_start region channel row = (channel * region.height + row) * region.width

abbrev pub row_from : {X : Type 0} → Region → (channel row : ℕ) → List X → List X
row_from region channel row samples = take region.width (drop (row_start region channel row) samples)

-- what a grid means: its samples, each by what its kind says
abbrev pub grid_of : {X : Type 0} → (X → ℕ → Float) → ℕ → Region → List X → ℕ → Meaning
grid_of value channels region samples full =
    record {
      channels = channels;
      region = region;
      at = λ c x y. slice_index_or (map (λ s. value s full) samples) (row_start region c (row_of region y) + column_of region x) zero;
    }
