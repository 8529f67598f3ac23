-- What a store means: its sizes, and one float for each place. What a call leaves of it is said by Changed.
use Rattle.std.specs.Prelude.{◌≡◌, ℕ, ◌+◌, Bool, cond, ◌&&◌, List, ◌==◌, nat_le, nat_lt, Float}
use Rattle.std.specs.Borrow.{GName}
use Rattle.sample.specs.Samples.{zero}

-- A place is a plane, a column and a row. `rest` is what the store's memory has besides its places, and `lent` names that memory:
-- who lent it knows by these two that it is their own, and what it holds.
pub record Held : Type 0 where
  pub columns : ℕ
  pub rows : ℕ
  pub planes : ℕ
  pub at : ℕ → ℕ → ℕ → Float
  pub rest : List Float
  pub lent : GName

abbrev pub inside : Held → ℕ → ℕ → ℕ → Bool
inside h p c r = nat_lt p h.planes && (nat_lt c h.columns && nat_lt r h.rows)

-- what is read at a place: 0.0 outside
abbrev pub seen : Held → ℕ → ℕ → ℕ → Float
seen h p c r = cond (inside h p c r) (h.at p c r) zero

-- a run: n columns of plane p and row r, from column c on
abbrev pub in_run : ℕ → ℕ → ℕ → ℕ → ℕ → ℕ → ℕ → Bool
in_run p c r n q d s = q == p && (s == r && (nat_le c d && nat_lt d (c + n)))

-- whether a store has all of a run
abbrev pub run_inside : Held → ℕ → ℕ → ℕ → ℕ → Bool
run_inside h p c r n = nat_lt p h.planes && (nat_lt r h.rows && nat_le (c + n) h.columns)

-- After a write: a place that is inside and that `when` names reads as `value` says, every other as before. Sizes, rest and memory stay.
pub record Changed (before after : Held) (when : ℕ → ℕ → ℕ → Bool) (value : ℕ → ℕ → ℕ → Float) : Type 0 where
  pub columns : after.columns ≡ before.columns
  pub rows : after.rows ≡ before.rows
  pub planes : after.planes ≡ before.planes
  pub rest : after.rest ≡ before.rest
  pub lent : after.lent ≡ before.lent
  pub places : (p c r : ℕ) → seen after p c r ≡ cond (inside before p c r && when p c r) (value p c r) (seen before p c r)
