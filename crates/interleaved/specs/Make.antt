-- The number of a place, and what the make means.
use Rattle.std.specs.Prelude.{ℕ, List, Float, length}
use Rattle.std.specs.Borrow.{GName}
use Rattle.store.specs.Held.{Held}
use Rattle.layout.specs.Layout.{planes_of, number_of, held_by}
use Rattle.layout.specs.declared.slices.SliceStore.{SliceStore}
use Rattle.interleaved.specs.declared.PlanesTogether.{PlanesTogether}

-- row after row, each column with all its planes
abbrev pub interleaved_number : ℕ → ℕ → ℕ → ℕ → ℕ → ℕ
interleaved_number columns planes p c r = number_of r c columns p planes

abbrev pub interleaved : List Float → GName → ℕ → ℕ → Held
interleaved samples name columns rows =
    held_by (interleaved_number columns (planes_of (length samples) columns rows)) samples name columns rows

abbrev pub interleaved_of : SliceStore PlanesTogether → Held
interleaved_of s = interleaved s.samples.now s.samples.ghost_name s.columns s.rows
