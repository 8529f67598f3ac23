-- What start takes, and why a call is refused: conditions in the order in which they are looked at.
use Rattle.std.specs.Prelude.{ℕ, suc, ◌+◌, ◌-◌, ◌*◌, Bool, true, false, cond, not, ◌&&◌, ◌||◌, ltb, leb, List, [], ◌∷◌, ◌++◌, length, Some, None, Option, ◌==◌, nat_eq, nat_le, nat_lt, slice_index_or}
use Rattle.std.specs.List.{list_any}
use Rattle.refusal.specs.declared.Refusal.{Refusal}
use Rattle.refusal.specs.declared.Refusal.TheVariants as why
use Rattle.region.specs.declared.Region.{Region}
use Rattle.region.specs.Bounds.{side_allowed, place_allowed}
use Rattle.region.specs.Positions.{within, is_empty, is_allowed}
use Rattle.blend.specs.declared.modes.Kind.{Kind}
use Rattle.blend.specs.declared.modes.Kind.TheVariants as kind
use Rattle.blend.specs.declared.modes.FrameBlendMode.{FrameBlendMode}
use Rattle.blend.specs.declared.modes.FrameBlendMode.TheVariants as frame
use Rattle.blend.specs.declared.modes.PatchBlendMode.{PatchBlendMode}
use Rattle.blend.specs.declared.modes.PatchBlendMode.TheVariants as patch
use Rattle.blend.specs.declared.records.BlendingInfo.{BlendingInfo}
use Rattle.blend.specs.declared.records.PatchBlendingInfo.{PatchBlendingInfo}
use Rattle.blend.specs.Modes.{any_extra, frame_reads_alpha, patch_reads_alpha}
use Rattle.machine.specs.declared.calls.Header.{Header}
use Rattle.machine.specs.declared.calls.FrameRecord.{FrameRecord}
use Rattle.machine.specs.declared.calls.PatchRecord.{PatchRecord}
use Rattle.machine.specs.declared.calls.Rectangle.{Rectangle}
use Rattle.machine.specs.declared.calls.Size.{Size}
use Rattle.machine.specs.declared.calls.Stamp.{Stamp}
use Rattle.machine.specs.Calls.{Image, Patch, Call, opening, patching, blending, abandoning, clearing}

-- ---- numbers, and what they stand for once they are checked

abbrev pub kind_of : ℕ → Kind
kind_of n = cond (n == 0) kind.NoAlpha (cond (n == 1) kind.Alpha kind.Premultiplied)

abbrev pub frame_mode_of : ℕ → FrameBlendMode
frame_mode_of n =
    cond (n == 0) frame.Replace (cond (n == 1) frame.Add (cond (n == 2) frame.Blend (cond (n == 3) frame.MulAdd frame.Mul)))

abbrev pub patch_mode_of : ℕ → PatchBlendMode
patch_mode_of n =
    cond (n == 0) patch.None (cond (n == 1) patch.Replace (cond (n == 2) patch.Add (cond (n == 3) patch.Mul
    (cond (n == 4) patch.BlendAbove (cond (n == 5) patch.BlendBelow (cond (n == 6) patch.MulAddAbove patch.MulAddBelow))))))

abbrev pub frame_info : FrameRecord → BlendingInfo
frame_info r = record { mode = frame_mode_of r.mode; alpha_channel = r.alpha; clamp = r.clamp; source = r.source }

abbrev pub patch_info : PatchRecord → PatchBlendingInfo
patch_info r = record { mode = patch_mode_of r.mode; alpha_channel = r.alpha; clamp = r.clamp }

-- ---- what start takes

pub record Setup : Type 0 where
  pub mark : ℕ
  pub region : Region
  pub colors : ℕ
  pub kinds : List Kind

abbrev pub channels_of : Setup → ℕ
channels_of s = s.colors + length s.kinds

-- ---- conditions

-- the first condition that holds, if one does
pub record Check : Type 0 where
  pub broken : Bool
  pub refusal : Refusal

infixr 20 ◌unless◌
abbrev pub ◌unless◌ : Refusal → Bool → Check
refusal unless fine = record { broken = not fine; refusal = refusal }

abbrev pub first_broken : List Check → Option Refusal
first_broken [] = None
first_broken (c ∷ cs) = cond c.broken (Some c.refusal) (first_broken cs)

abbrev pub slots_of_stage : ℕ
slots_of_stage = 4

-- four slots and the open frame
abbrev pub planes_needed : ℕ → ℕ
planes_needed channels = 5 * channels

-- every position of the region is a place of the store, in every plane that a stage uses
abbrev pub fits_store : Size → Setup → Bool
fits_store size s =
    (nat_le s.region.width size.columns && nat_le s.region.height size.rows) && nat_le (planes_needed (channels_of s)) size.planes

abbrev pub start_checks : Size → Region → ℕ → List ℕ → List Check
start_checks size region colors kinds =
    (why.RegionLimits unless is_allowed region)
    ∷ ((why.ChannelKinds unless ((colors == 1 || colors == 3) && (nat_le (length kinds) 8 && not (list_any (ltb 2) kinds))))
    ∷ ((why.StoreSize
    unless ((size.columns == region.width && size.rows == region.height) && nat_le (planes_needed (colors + length kinds)) size.planes))
    ∷ []))

-- one record for all colours, and one for each extra channel
abbrev pub count_fits : {X : Type 0} → Setup → List X → Bool
count_fits s records = length records == suc (length s.kinds)

-- an image to draw: all channels of the stage, and a region that is empty or one that a stage works on
abbrev pub image_checks : Setup → Image → List Check
image_checks s image =
    (why.PictureChannels unless nat_eq image.channels (channels_of s))
    ∷ ((why.PictureLimits unless (is_empty image.region || is_allowed image.region)) ∷ [])

abbrev pub frame_allowed : Header → Bool
frame_allowed h = (side_allowed h.width && side_allowed h.height) && (place_allowed h.left && place_allowed h.top)

-- a record that reads alpha names an extra channel that exists
abbrev pub frame_alpha_missing : Setup → FrameRecord → Bool
frame_alpha_missing s r = frame_reads_alpha (any_extra s.kinds) (frame_mode_of r.mode) && nat_le (length s.kinds) r.alpha

abbrev pub patch_alpha_missing : Setup → PatchRecord → Bool
patch_alpha_missing s r = patch_reads_alpha (patch_mode_of r.mode) && nat_le (length s.kinds) r.alpha

abbrev pub open_checks : Setup → Header → List FrameRecord → Image → List Check
open_checks s h records image =
    (why.FrameLimits unless frame_allowed h)
    ∷ ((why.SlotNumber unless (nat_lt h.target slots_of_stage && not (list_any (λ r. leb slots_of_stage r.source) records)))
    ∷ ((why.RecordCount unless count_fits s records)
    ∷ ((why.ModeNumber unless not (list_any (λ r. ltb 4 r.mode) records))
    ∷ ((why.MissingAlpha unless not (list_any (frame_alpha_missing s) records)) ∷ image_checks s image))))

-- the rectangle has both sides and lies inside the sheet
abbrev pub rectangle_inside : Rectangle → Region → Bool
rectangle_inside r sheet =
    (nat_lt 0 r.width && nat_lt 0 r.height)
    && (within sheet.left sheet.width r.left r.width && within sheet.top sheet.height r.top r.height)

abbrev pub patch_checks : Setup → Patch → List Check
patch_checks s p =
    (why.RecordCount unless count_fits s p.records)
    ∷ ((why.ModeNumber unless not (list_any (λ r. ltb 7 r.mode) p.records))
    ∷ ((why.MissingAlpha unless not (list_any (patch_alpha_missing s) p.records))
    ∷ (image_checks s p.sheet
    ++ ((why.PatchRectangle unless rectangle_inside p.rectangle p.sheet.region)
    ∷ ((why.PatchPlace unless (place_allowed p.x && place_allowed p.y)) ∷ [])))))

abbrev pub slot_check : ℕ → List Check
slot_check slot = (why.SlotNumber unless ltb slot slots_of_stage) ∷ []

-- what the arguments of a call decide
abbrev pub argument_checks : Setup → Call → List Check
argument_checks s (opening h records image) = open_checks s h records image
argument_checks s (patching stamp p) = patch_checks s p
argument_checks s (blending stamp) = []
argument_checks s (abandoning stamp) = []
argument_checks s (clearing slot) = slot_check slot

-- a ticket against the number of the open frame
abbrev pub ticket_checks : Setup → Option ℕ → Stamp → List Check
ticket_checks s None stamp = (why.NoFrameOpen unless false) ∷ []
ticket_checks s (Some number) stamp = (why.WrongTicket unless (stamp.mark == s.mark && stamp.number == number)) ∷ []

abbrev pub closed : Option ℕ → Bool
closed None = true
closed (Some number) = false

-- opening a frame: none is open, its number is above the last one, and the store has every position
abbrev pub open_state : (current : Option ℕ) (last number : ℕ) (fits : Bool) → List Check
open_state current last number fits =
    (why.FrameOpen unless closed current) ∷ ((why.FrameNumber unless ltb last number) ∷ ((why.OutsideStore unless fits) ∷ []))

-- drawing on the open frame, or from it: its ticket, and the store has every position
abbrev pub draw_state : Setup → (current : Option ℕ) → Stamp → (fits : Bool) → List Check
draw_state s current stamp fits = ticket_checks s current stamp ++ ((why.OutsideStore unless fits) ∷ [])

abbrev pub clear_state : (current : Option ℕ) → List Check
clear_state current = (why.FrameOpen unless closed current) ∷ []

-- what the open frame's number and the last blended one decide
abbrev pub state_checks : Size → Setup → Option ℕ → ℕ → Call → List Check
state_checks size s number last (opening h records image) = open_state number last h.number (fits_store size s)
state_checks size s number last (patching stamp p) = draw_state s number stamp (fits_store size s)
state_checks size s number last (blending stamp) = draw_state s number stamp (fits_store size s)
state_checks size s number last (abandoning stamp) = ticket_checks s number stamp
state_checks size s number last (clearing slot) = clear_state number

abbrev pub checks : Size → Setup → Option ℕ → ℕ → Call → List Check
checks size s number last call = argument_checks s call ++ state_checks size s number last call

-- the record of a channel: the first for colours, then one for each extra channel
abbrev pub record_of : {X : Type 0} → X → ℕ → List X → ℕ → X
record_of none colors records c = slice_index_or records (cond (nat_lt c colors) 0 (suc (c - colors))) none
