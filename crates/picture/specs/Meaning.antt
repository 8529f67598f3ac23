-- What a picture means: a channel count, one region for all channels, and one float for each channel and position there.
use Rattle.std.specs.Prelude.{ℕ, Bool, cond, ◌&&◌, ℤ, nat_lt, Float}
use Rattle.sample.specs.Samples.{zero}
use Rattle.region.specs.declared.Region.{Region}
use Rattle.region.specs.Positions.{has}

pub record Meaning : Type 0 where
  pub channels : ℕ
  pub region : Region
  pub at : ℕ → ℤ → ℤ → Float

-- whether there is a sample
abbrev pub shows : Meaning → ℕ → ℤ → ℤ → Bool
shows m c x y = nat_lt c m.channels && has m.region x y

-- what is read: 0.0 elsewhere
abbrev pub value_at : Meaning → ℕ → ℤ → ℤ → Float
value_at m c x y = cond (shows m c x y) (m.at c x y) zero

-- 0.0 throughout
abbrev pub blank : ℕ → Region → Meaning
blank channels region = record { channels = channels; region = region; at = λ c x y. zero }
