-- The number of a place, and what the make means.
use Rattle.std.specs.Prelude.{ℕ, List, Float}
use Rattle.std.specs.Borrow.{GName}
use Rattle.store.specs.Held.{Held}
use Rattle.layout.specs.Layout.{number_of, held_by}
use Rattle.layout.specs.declared.slices.SliceStore.{SliceStore}
use Rattle.planar.specs.declared.PlaneAfterPlane.{PlaneAfterPlane}

-- plane after plane, each row after row
abbrev pub planar_number : ℕ → ℕ → ℕ → ℕ → ℕ → ℕ
planar_number columns rows p c r = number_of p r rows c columns

abbrev pub planar : List Float → GName → ℕ → ℕ → Held
planar samples name columns rows = held_by (planar_number columns rows) samples name columns rows

abbrev pub planar_of : SliceStore PlaneAfterPlane → Held
planar_of s = planar s.samples.now s.samples.ghost_name s.columns s.rows
