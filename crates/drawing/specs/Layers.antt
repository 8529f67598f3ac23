-- What drawing makes of a place: layers of samples, and for each channel a stroke, which is a formula over an old layer and the new one.
use Rattle.std.specs.Prelude.{ℕ, ◌+◌, ◌-◌, Bool, cond, ◌&&◌, pos, ◌+ℤ◌, is_some, Some, None, Option, nat_le, nat_lt, slice_index_or, Float}
use Rattle.sample.specs.Samples.{zero}
use Rattle.formulas.specs.declared.Operands.{Operands}
use Rattle.blend.specs.Tables.{alpha_read, formula}
use Rattle.picture.specs.Meaning.{Meaning, value_at}
use Rattle.store.specs.Held.{Held, seen}
use Rattle.drawing.specs.declared.layers.Layer.{Layer}
use Rattle.drawing.specs.declared.layers.Layer.TheVariants.{Blank, Planes, Placed}
use Rattle.drawing.specs.declared.strokes.Stroke.{Stroke}
use Rattle.drawing.specs.declared.strokes.Drawing.{Drawing}

-- what a layer has at a channel, a column and a row: 0.0 where it has nothing
abbrev pub layer_at : Layer → Meaning → Held → (channel column row : ℕ) → Float
layer_at Blank m h ch c r = zero
layer_at (Planes first count) m h ch c r = cond (nat_lt ch count) (seen h (first + ch) c r) zero
layer_at (Placed x y) m h ch c r = value_at m ch (x +ℤ pos c) (y +ℤ pos r)

-- the extra channel that a formula reads as alpha; where it reads none, the first stands for it
abbrev pub number_or : Option ℕ → ℕ
number_or None = 0
number_or (Some n) = n

abbrev pub layer_operands : (old new : Layer) → Meaning → Held → (channel alpha column row : ℕ) → Operands
layer_operands old new m h ch alpha c r =
    record {
      base = layer_at old m h ch c r;
      new = layer_at new m h ch c r;
      base_alpha = layer_at old m h alpha c r;
      new_alpha = layer_at new m h alpha c r;
    }

abbrev pub stroke_at : Stroke → Layer → (colors : ℕ) → Meaning → Held → (channel column row : ℕ) → Float
stroke_at s new colors m h ch c r = formula s.mode (layer_operands s.old new m h ch (colors + number_or (alpha_read s.mode)) c r)

abbrev pub stroke_or : Option Stroke → Layer → (colors : ℕ) → Meaning → Held → (channel column row : ℕ) → Float
stroke_or None new colors m h ch c r = zero
stroke_or (Some s) new colors m h ch c r = stroke_at s new colors m h ch c r

-- the channel's stroke, if it has one
abbrev pub stroke_of : Drawing → ℕ → Option Stroke
stroke_of d ch = slice_index_or d.strokes ch None

-- the planes that a drawing writes: those of its channels, eleven at the most, that have a stroke
abbrev pub touches : Drawing → (plane : ℕ) → Bool
touches d p = (nat_le d.first p && nat_lt (p - d.first) 11) && is_some (stroke_of d (p - d.first))

-- what it writes there
abbrev pub drawn_at : Drawing → Meaning → Held → (plane column row : ℕ) → Float
drawn_at d m h p c r = stroke_or (stroke_of d (p - d.first)) d.new d.colors m h (p - d.first) c r
