-- Runs and rectangles of columns and rows, and what a painter may read.
use Rattle.std.specs.Prelude.{◌≡◌, ℕ, Bool, ◌&&◌, ◌==◌, nat_le, nat_lt, Float}
use Rattle.store.specs.Held.{Held, seen}
use Rattle.walk.specs.declared.parts.Area.{Area}

-- the columns of one row, from the first up to the last
abbrev pub in_line : (first last row : ℕ) → (column at : ℕ) → Bool
in_line first last row c r = r == row && (nat_le first c && nat_lt c last)

abbrev pub in_area : Area → (column row : ℕ) → Bool
in_area area c r = (nat_le area.top r && nat_lt r area.bottom) && (nat_le area.left c && nat_lt c area.right)

-- what is made at a place depends on the samples of that column and row alone, in whatever plane
abbrev pub Local : (Held → ℕ → ℕ → ℕ → Float) → Type 0
Local value =
    (a b : Held) (p c r : ℕ) → a.columns ≡ b.columns → a.rows ≡ b.rows → a.planes ≡ b.planes → ((q : ℕ) → seen a q c r ≡ seen b q c r) → value a p c r ≡ value b p c r
