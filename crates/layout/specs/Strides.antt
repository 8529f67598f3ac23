-- Runs of a row whose samples lie a stride apart.
use Rattle.std.specs.Prelude.{◌≡◌, ℕ, ◌+◌, ◌*◌, ◌<◌, List, Float, length, slice_index_or}
use Rattle.std.specs.Float.{nan}

-- the first n columns of a row have their samples among `limit` of them
abbrev pub reaches : (limit stride n : ℕ) → Type 0
reaches limit stride n = (c : ℕ) → c < n → c * stride < limit

-- after the first n of a list were written to the columns from one on: they stand there, and every other sample is as before
pub record IsWritten (before after : List Float) (column stride : ℕ) (from : List Float) (n : ℕ) : Type 0 where
  pub same_length : length after ≡ length before
  pub written : (k : ℕ) → k < n → slice_index_or after ((column + k) * stride) nan ≡ slice_index_or from k nan
  pub others : (m : ℕ) → ((k : ℕ) → k < n → ¬ (m ≡ (column + k) * stride)) → slice_index_or after m nan ≡ slice_index_or before m nan
