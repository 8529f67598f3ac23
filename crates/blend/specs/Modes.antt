-- The numbers of the modes and of the kinds of extra channels, and which modes read alpha.
use Rattle.std.specs.Prelude.{ℕ, Bool, true, false, List, [], ◌∷◌, slice_index_or}
use Rattle.blend.specs.declared.modes.FrameBlendMode.{FrameBlendMode}
use Rattle.blend.specs.declared.modes.FrameBlendMode.TheVariants as frame
use Rattle.blend.specs.declared.modes.PatchBlendMode.{PatchBlendMode}
use Rattle.blend.specs.declared.modes.PatchBlendMode.TheVariants as patch
use Rattle.blend.specs.declared.modes.Kind.{Kind}
use Rattle.blend.specs.declared.modes.Kind.TheVariants.{NoAlpha, Alpha, Premultiplied}

abbrev pub frame_number : FrameBlendMode → ℕ
frame_number frame.Replace = 0
frame_number frame.Add = 1
frame_number frame.Blend = 2
frame_number frame.MulAdd = 3
frame_number frame.Mul = 4

abbrev pub patch_number : PatchBlendMode → ℕ
patch_number patch.None = 0
patch_number patch.Replace = 1
patch_number patch.Add = 2
patch_number patch.Mul = 3
patch_number patch.BlendAbove = 4
patch_number patch.BlendBelow = 5
patch_number patch.MulAddAbove = 6
patch_number patch.MulAddBelow = 7

abbrev pub kind_number : Kind → ℕ
kind_number NoAlpha = 0
kind_number Alpha = 1
kind_number Premultiplied = 2

-- Blend and MulAdd read alpha. Without extra channels a frame has none to read.
abbrev pub frame_reads_alpha : Bool → FrameBlendMode → Bool
frame_reads_alpha extra frame.Replace = false
frame_reads_alpha extra frame.Add = false
frame_reads_alpha extra frame.Blend = extra
frame_reads_alpha extra frame.MulAdd = extra
frame_reads_alpha extra frame.Mul = false

abbrev pub patch_reads_alpha : PatchBlendMode → Bool
patch_reads_alpha patch.None = false
patch_reads_alpha patch.Replace = false
patch_reads_alpha patch.Add = false
patch_reads_alpha patch.Mul = false
patch_reads_alpha patch.BlendAbove = true
patch_reads_alpha patch.BlendBelow = true
patch_reads_alpha patch.MulAddAbove = true
patch_reads_alpha patch.MulAddBelow = true

abbrev pub any_extra : List Kind → Bool
any_extra [] = false
any_extra (kind ∷ kinds) = true

abbrev pub is_premultiplied : Kind → Bool
is_premultiplied NoAlpha = false
is_premultiplied Alpha = false
is_premultiplied Premultiplied = true

-- of an extra channel by its number; one that does not exist is not
abbrev pub premultiplied_at : List Kind → ℕ → Bool
premultiplied_at kinds alpha = is_premultiplied (slice_index_or kinds alpha NoAlpha)
