-- What the fields of a grid mean.
use Rattle.std.specs.Prelude.{ℕ, Float}
use Rattle.picture.specs.Meaning.{Meaning}
use Rattle.picture.specs.Shapes.{grid_of}
use Rattle.picture.specs.declared.grid.Grid.{Grid}

abbrev pub meaning_of : {X : Type 0} → (X → ℕ → Float) → Grid X → Meaning
meaning_of value g = grid_of value g.channels g.region g.samples.now g.full
