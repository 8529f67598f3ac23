-- Words of the inner contracts: a plan has a stroke for each channel that it draws; a slot's canvas is a layer.
use Rattle.std.specs.Prelude.{◌≡◌, ℕ, ◌*◌, ◌≤◌, Bool, false, cond, List, map, ℤ, ◌+ℤ◌, ◌-ℤ◌, Some, None, Option, ◌==◌, nat_lt, slice_index_or}
use Rattle.blend.specs.declared.records.BlendMode.{BlendMode}
use Rattle.blend.specs.declared.records.BlendMode.TheVariants.{Replace, Skip}
use Rattle.blend.specs.declared.records.BlendingInfo.{BlendingInfo}
use Rattle.blend.specs.Tables.{frame_mode, patch_mode}
use Rattle.region.specs.declared.Region.{Region}
use Rattle.machine.specs.declared.calls.Header.{Header}
use Rattle.machine.specs.declared.calls.PatchRecord.{PatchRecord}
use Rattle.machine.specs.Checks.{Setup, channels_of, patch_info, record_of}
use Rattle.machine.specs.Machine.{no_frame_info, no_patch_info}
use Rattle.views.specs.View.{Opened, frame_slot}
use Rattle.drawing.specs.declared.layers.Layer.{Layer}
use Rattle.drawing.specs.declared.layers.Layer.TheVariants.{Blank, Planes, Placed}
use Rattle.drawing.specs.declared.strokes.Stroke.{Stroke}
use Rattle.drawing.specs.declared.strokes.Drawing.{Drawing}
use Rattle.drawing.specs.Layers.{stroke_of}

abbrev pub Plan : Type 0
Plan = ℕ → Option Stroke

-- whatever is given to a channel, it is what the plan says
abbrev pub Follows : (ℕ → Option Stroke → Type 0) → Plan → Type 0
Follows given plan = (ch : ℕ) (stroke : Option Stroke) → given ch stroke → stroke ≡ plan ch

-- the planes of a slot
abbrev pub slot_layer : Setup → ℕ → Layer
slot_layer s k = Planes (k * channels_of s) (channels_of s)

-- a source: 0.0 throughout where it is empty
abbrev pub source_layer : Setup → List Bool → ℕ → Layer
source_layer s filled k = cond (slice_index_or filled k false) (slot_layer s k) Blank

-- a picture whose position (left, top) stands at (x, y) of a frame
abbrev pub offset_of : (corner origin place from : ℤ) → ℤ
offset_of corner origin place from = (corner -ℤ origin) +ℤ (from -ℤ place)

abbrev pub sheet_layer : Region → Header → (x y left top : ℤ) → Layer
sheet_layer region h x y left top = Placed (offset_of region.left h.left x left) (offset_of region.top h.top y top)

-- open copies the picture
abbrev pub open_plan : Plan
open_plan ch = Some (record { old = Blank; mode = Replace })

-- a patch goes by its records, from the frame as it stands
abbrev pub stroke_by : Layer → Option BlendMode → Option Stroke
stroke_by old None = None
stroke_by old (Some mode) = Some (record { old = old; mode = mode })

abbrev pub patch_plan : Setup → List PatchRecord → Plan
patch_plan s records ch =
    stroke_by (slot_layer s frame_slot) (patch_mode ch s.colors (record_of no_patch_info s.colors (map patch_info records) ch) s.kinds)

abbrev pub info_of : Setup → Opened → ℕ → BlendingInfo
info_of s o ch = record_of no_frame_info s.colors o.infos ch

-- blend goes by the frame's records, each from its source
abbrev pub blend_plan : Setup → Opened → List Bool → Plan
blend_plan s o filled ch =
    let info = info_of s o ch in
    Some (record { old = source_layer s filled info.source; mode = frame_mode ch s.colors info s.kinds })

-- where the frame is not drawn the source's sample is kept: nothing is to do where that is the target itself
abbrev pub stays : Setup → Opened → List Bool → ℕ → Bool
stays s o filled ch = cond (slice_index_or filled o.header.target false) ((info_of s o ch).source == o.header.target) false

abbrev pub keep_plan : Setup → Opened → List Bool → Plan
keep_plan s o filled ch = cond (stays s o filled ch) None (Some (record { old = source_layer s filled (info_of s o ch).source; mode = Skip }))

-- a drawing by a plan, onto the planes of a slot
pub record Planned (s : Setup) (k : ℕ) (plan : Plan) (new : Layer) (d : Drawing) : Type 0 where
  pub first : d.first ≡ k * channels_of s
  pub colors : d.colors ≡ s.colors
  pub newer : d.new ≡ new
  pub strokes : (ch : ℕ) → stroke_of d ch ≡ cond (nat_lt ch (channels_of s)) (plan ch) None
  pub few : channels_of s ≤ 11
