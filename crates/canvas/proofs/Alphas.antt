-- A formula reads no alpha but the one that its record names: with any other in that place where it reads none, it makes the same.
use Rattle.std.proofs.Common.{◌≡◌, ℕ, ◌+◌, Bool, true, false, List, is_some, Some, None, Option, refl}
use Rattle.std.proofs.lemmas.Bool.{true≢false, false≢true}
use Rattle.picture.specs.Meaning.{Meaning}
use Rattle.store.specs.Held.{Held}
use Rattle.blend.specs.declared.modes.Kind.{Kind}
use Rattle.blend.specs.declared.modes.FrameBlendMode.{FrameBlendMode}
use Rattle.blend.specs.declared.modes.FrameBlendMode.TheVariants as frame
use Rattle.blend.specs.declared.modes.PatchBlendMode.{PatchBlendMode}
use Rattle.blend.specs.declared.modes.PatchBlendMode.TheVariants as patch
use Rattle.blend.specs.declared.records.BlendMode.{BlendMode}
use Rattle.blend.specs.Tables.{frame_table, patch_table, alpha_of, formula}
use Rattle.machine.specs.Machine.{by_patch}
use Rattle.drawing.specs.declared.layers.Layer.{Layer}
use Rattle.drawing.specs.Layers.{layer_operands, layer_at, stroke_at, stroke_or}
use Rattle.canvas.specs.Plans.{stroke_by}

module _ (old new : Layer) (colors : ℕ) (m : Meaning) (h : Held) (ch c r : ℕ) (clamp : Bool) (kinds : List Kind) (a : ℕ) where
  pub frame_stroke :
      (mode : FrameBlendMode) (extra mine : Bool)
      → stroke_at (record { old = old; mode = frame_table mode extra mine clamp (alpha_of a clamp kinds) }) new colors m h ch c r
      ≡ formula (frame_table mode extra mine clamp (alpha_of a clamp kinds)) (layer_operands old new m h ch (colors + a) c r)
  frame_stroke frame.Replace extra mine = refl
  frame_stroke frame.Add extra mine = refl
  frame_stroke frame.Blend false mine = refl
  frame_stroke frame.Blend true true = refl
  frame_stroke frame.Blend true false = refl
  frame_stroke frame.MulAdd false mine = refl
  frame_stroke frame.MulAdd true true = refl
  frame_stroke frame.MulAdd true false = refl
  frame_stroke frame.Mul extra mine = refl

  pub patch_stroke :
      (mode : PatchBlendMode) (mine : Bool)
      → is_some (stroke_by old (patch_table mode mine clamp (alpha_of a clamp kinds))) ≡ true
      → stroke_or (stroke_by old (patch_table mode mine clamp (alpha_of a clamp kinds))) new colors m h ch c r
      ≡ by_patch (patch_table mode mine clamp (alpha_of a clamp kinds)) (layer_operands old new m h ch (colors + a) c r)
  patch_stroke patch.None mine some = absurd (false≢true some)
  patch_stroke patch.Replace mine some = refl
  patch_stroke patch.Add mine some = refl
  patch_stroke patch.Mul mine some = refl
  patch_stroke patch.BlendAbove true some = refl
  patch_stroke patch.BlendAbove false some = refl
  patch_stroke patch.BlendBelow true some = refl
  patch_stroke patch.BlendBelow false some = refl
  patch_stroke patch.MulAddAbove true some = refl
  patch_stroke patch.MulAddAbove false some = refl
  patch_stroke patch.MulAddBelow true some = refl
  patch_stroke patch.MulAddBelow false some = refl

-- a patch that draws nothing keeps the old sample
pub patch_keeps : (old new : Layer) (m : Meaning) (h : Held) (ch alpha c r : ℕ) (o : Option BlendMode) → is_some (stroke_by old o) ≡ false → by_patch o (layer_operands old new m h ch alpha c r) ≡ layer_at old m h ch c r
patch_keeps old new m h ch alpha c r None none = refl
patch_keeps old new m h ch alpha c r (Some mode) none = absurd (true≢false none)
