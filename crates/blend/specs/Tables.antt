-- Which formula a record stands for at a channel. "Own" says that the channel is the alpha which its record names.
use Rattle.std.specs.Prelude.{ℕ, ◌+◌, Bool, true, false, List, Some, None, Option, ◌==◌, Float}
use Rattle.formulas.specs.Formulas.{exchanged, clamp_new, clamp_new_alpha, replace_of, add_of, mul_of, skip_of, mix_alpha_of, mul_add_of, blend_of}
use Rattle.blend.specs.Modes.{any_extra, premultiplied_at}
use Rattle.formulas.specs.declared.Operands.{Operands}
use Rattle.blend.specs.declared.modes.FrameBlendMode.{FrameBlendMode}
use Rattle.blend.specs.declared.modes.FrameBlendMode.TheVariants as frame
use Rattle.blend.specs.declared.modes.PatchBlendMode.{PatchBlendMode}
use Rattle.blend.specs.declared.modes.PatchBlendMode.TheVariants as patch
use Rattle.blend.specs.declared.modes.Kind.{Kind}
use Rattle.blend.specs.declared.records.BlendAlpha.{BlendAlpha}
use Rattle.blend.specs.declared.records.BlendMode.{BlendMode}
use Rattle.blend.specs.declared.records.BlendMode.TheVariants.{Replace, Add, Mul, Blend, MulAdd, MixAlpha, Skip}
use Rattle.blend.specs.declared.records.BlendingInfo.{BlendingInfo}
use Rattle.blend.specs.declared.records.PatchBlendingInfo.{PatchBlendingInfo}

-- frames: the mode, with extra channels or without, own or not
abbrev pub frame_table : FrameBlendMode → Bool → Bool → (clamp : Bool) → (Bool → BlendAlpha) → BlendMode
frame_table frame.Replace extra own clamp alpha = Replace
frame_table frame.Add extra own clamp alpha = Add
frame_table frame.Blend false own clamp alpha = Replace
frame_table frame.Blend true true clamp alpha = MixAlpha clamp false
frame_table frame.Blend true false clamp alpha = Blend (alpha false)
frame_table frame.MulAdd false own clamp alpha = Add
frame_table frame.MulAdd true true clamp alpha = Skip
frame_table frame.MulAdd true false clamp alpha = MulAdd (alpha false)
frame_table frame.Mul extra own clamp alpha = Mul clamp

-- patches: the mode, own or not; nothing is drawn by the first
abbrev pub patch_table : PatchBlendMode → Bool → (clamp : Bool) → (Bool → BlendAlpha) → Option BlendMode
patch_table patch.None own clamp alpha = None
patch_table patch.Replace own clamp alpha = Some Replace
patch_table patch.Add own clamp alpha = Some Add
patch_table patch.Mul own clamp alpha = Some (Mul clamp)
patch_table patch.BlendAbove true clamp alpha = Some (MixAlpha clamp false)
patch_table patch.BlendAbove false clamp alpha = Some (Blend (alpha false))
patch_table patch.BlendBelow true clamp alpha = Some (MixAlpha clamp true)
patch_table patch.BlendBelow false clamp alpha = Some (Blend (alpha true))
patch_table patch.MulAddAbove true clamp alpha = Some Skip
patch_table patch.MulAddAbove false clamp alpha = Some (MulAdd (alpha false))
patch_table patch.MulAddBelow true clamp alpha = Some Replace
patch_table patch.MulAddBelow false clamp alpha = Some (MulAdd (alpha true))

-- how a record reads the alpha channel that it names
abbrev pub alpha_of : ℕ → Bool → List Kind → Bool → BlendAlpha
alpha_of channel clamp kinds swapped =
    record { channel = channel; clamp = clamp; swapped = swapped; premultiplied = premultiplied_at kinds channel }

abbrev pub is_own : (channel colors alpha : ℕ) → Bool
is_own channel colors alpha = channel == colors + alpha

abbrev pub frame_mode : (channel colors : ℕ) → BlendingInfo → List Kind → BlendMode
frame_mode channel colors info kinds =
    frame_table info.mode (any_extra kinds) (is_own channel colors info.alpha_channel) info.clamp
    (alpha_of info.alpha_channel info.clamp kinds)

abbrev pub patch_mode : (channel colors : ℕ) → PatchBlendingInfo → List Kind → Option BlendMode
patch_mode channel colors info kinds =
    patch_table info.mode (is_own channel colors info.alpha_channel) info.clamp (alpha_of info.alpha_channel info.clamp kinds)

-- the extra channel that a formula reads as alpha
abbrev pub alpha_read : BlendMode → Option ℕ
alpha_read Replace = None
alpha_read Add = None
alpha_read (Mul clamp) = None
alpha_read (Blend alpha) = Some alpha.channel
alpha_read (MulAdd alpha) = Some alpha.channel
alpha_read (MixAlpha clamp swapped) = None
alpha_read Skip = None

-- what a formula makes of its four floats: exchanged first, then clamped
abbrev pub formula : BlendMode → Operands → Float
formula Replace o = replace_of o
formula Add o = add_of o
formula (Mul clamp) o = mul_of (clamp_new clamp o)
formula (Blend alpha) o = blend_of alpha.premultiplied (clamp_new_alpha alpha.clamp (exchanged alpha.swapped o))
formula (MulAdd alpha) o = mul_add_of (clamp_new_alpha alpha.clamp (exchanged alpha.swapped o))
formula (MixAlpha clamp swapped) o = mix_alpha_of (clamp_new clamp (exchanged swapped o))
formula Skip o = skip_of o
