-- What is made at a place depends on the samples of that column and row alone, in whatever plane.
use Rattle.std.proofs.Common.{◌≡◌, ℕ, ◌+◌, ◌-◌, cond, nat_lt, Some, None, Option, refl, ap}
use Rattle.sample.specs.Samples.{zero}
use Rattle.picture.specs.Meaning.{Meaning}
use Rattle.store.specs.Held.{Held, seen}
use Rattle.blend.specs.Tables.{alpha_read, formula}
use Rattle.walk.specs.Rectangles.{Local}
use Rattle.drawing.specs.declared.layers.Layer.{Layer}
use Rattle.drawing.specs.declared.layers.Layer.TheVariants.{Blank, Planes, Placed}
use Rattle.drawing.specs.declared.strokes.Stroke.{Stroke}
use Rattle.drawing.specs.declared.strokes.Drawing.{Drawing}
use Rattle.drawing.specs.Layers.{layer_at, number_or, stroke_or, stroke_of, drawn_at}

module _ (m : Meaning) (a b : Held) (c r : ℕ) (same : (q : ℕ) → seen a q c r ≡ seen b q c r) where
  layer_local : (l : Layer) (ch : ℕ) → layer_at l m a ch c r ≡ layer_at l m b ch c r
  layer_local Blank ch = refl
  layer_local (Planes first count) ch = ap (λ v. cond (nat_lt ch count) v zero) (same _)
  layer_local (Placed x y) ch = refl

  stroke_local : (o : Option Stroke) (new : Layer) (colors ch : ℕ) → stroke_or o new colors m a ch c r ≡ stroke_or o new colors m b ch c r
  stroke_local None new colors ch = refl
  stroke_local (Some s) new colors ch =
      λ i.
      formula s.mode
      (record {
        base = layer_local s.old ch i;
        new = layer_local new ch i;
        base_alpha = layer_local s.old (colors + number_or (alpha_read s.mode)) i;
        new_alpha = layer_local new (colors + number_or (alpha_read s.mode)) i;
      })

pub drawn_local : (d : Drawing) (m : Meaning) → Local (drawn_at d m)
drawn_local d m a b p c r _ _ _ same = stroke_local m a b c r same (stroke_of d (p - d.first)) d.new d.colors (p - d.first)
