-- How the places of a store may be numbered among the samples of a slice.
use Rattle.std.specs.Prelude.{◌≡◌, ℕ, ◌+◌, ◌*◌, ◌/◌, ◌^◌, ◌<◌, ◌≤◌, Bool, true, false, cond, ◌&&◌, ◌||◌, List, length, drop, Option, MatchOption, ◌==◌, nat_lt, slice_index_or, Float}
use Rattle.std.specs.Float.{nan}
use Rattle.std.specs.Borrow.{GName}
use Rattle.store.specs.Held.{Held, inside}

-- the longest side that a store has
abbrev pub longest : ℕ
longest = 16384

-- whole planes among n samples
abbrev pub planes_of : ℕ → ℕ → ℕ → ℕ
planes_of n columns rows = cond ((columns == 0 || rows == 0) || (nat_lt longest columns || nat_lt longest rows)) 0 (n / (columns * rows))

-- three digits, the slowest first, each below how many values it takes, and the number that they write
abbrev pub in_range : (slow slows middle middles fast fasts : ℕ) → Bool
in_range slow slows middle middles fast fasts = nat_lt slow slows && (nat_lt middle middles && nat_lt fast fasts)

abbrev pub number_of : (slow middle middles fast fasts : ℕ) → ℕ
number_of slow middle middles fast fasts = (slow * middles + middle) * fasts + fast

-- what is answered for digits: their number where they are in range, but None past 64 bits
abbrev pub Told : Bool → ℕ → Option ℕ → Type 0
Told has number r = MatchOption r (has ≡ true → 2 ^ 64 ≤ number) (λ n. (has ≡ true) × (n ≡ number))

-- what is answered for a place: its number, below the limit, where it is inside
abbrev pub Found : Bool → ℕ → ℕ → Option ℕ → Type 0
Found has number limit r = MatchOption r (has ≡ false) (λ n. (has ≡ true) × (n ≡ number) × (n < limit))

-- What makes an order of numbers of places, by the columns, the rows and the planes, and a stride, by the planes:
-- each place inside has a number of its own, below the number of places, and the numbers of a row lie a stride apart.
pub record Numbers (number : ℕ → ℕ → ℕ → ℕ → ℕ → ℕ → ℕ) (stride : ℕ → ℕ) : Type 0 where
  pub below : (h : Held) (p c r : ℕ) → inside h p c r ≡ true → number h.columns h.rows h.planes p c r < h.planes * h.rows * h.columns
  pub apart : (h : Held) (p c r q d s : ℕ) → inside h p c r ≡ true → inside h q d s ≡ true → number h.columns h.rows h.planes p c r ≡ number h.columns h.rows h.planes q d s → (p ≡ q) × (c ≡ d) × (r ≡ s)
  pub along : (columns rows planes p c r : ℕ) → number columns rows planes p c r ≡ number columns rows planes p 0 r + c * stride planes
  pub wide : (planes : ℕ) → 0 < planes → 0 < stride planes

-- a store over samples, by the number of each place
abbrev pub held_by : (ℕ → ℕ → ℕ → ℕ) → List Float → GName → ℕ → ℕ → Held
held_by number samples name columns rows =
    record {
      columns = columns;
      rows = rows;
      planes = planes_of (length samples) columns rows;
      at = λ p c r. slice_index_or samples (number p c r) nan;
      rest = drop (planes_of (length samples) columns rows * rows * columns) samples;
      lent = name;
    }

abbrev pub ordered : (ℕ → ℕ → ℕ → ℕ → ℕ → ℕ → ℕ) → List Float → GName → ℕ → ℕ → Held
ordered number samples name columns rows =
    held_by (number columns rows (planes_of (length samples) columns rows)) samples name columns rows
