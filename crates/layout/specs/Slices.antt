-- What a store over a slice means.
use Rattle.std.specs.Prelude.{ℕ}
use Rattle.store.specs.Held.{Held}
use Rattle.layout.specs.Layout.{ordered}
use Rattle.layout.specs.declared.slices.SliceStore.{SliceStore}

abbrev pub held_of : {O : Type 0} → (ℕ → ℕ → ℕ → ℕ → ℕ → ℕ → ℕ) → SliceStore O → Held
held_of number s = ordered number s.samples.now s.samples.ghost_name s.columns s.rows
