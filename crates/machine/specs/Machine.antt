-- The definition of a stage: a machine that keeps what start took, four slots, the open frame and the last blended number.
-- It is fed calls alone. Everything drawn is said position by position.
use Rattle.std.specs.Prelude.{ℕ, ◌+◌, Bool, false, cond, ◌&&◌, List, [], ◌∷◌, map, ℤ, pos, ◌+ℤ◌, ◌-ℤ◌, Some, None, Option, ◌==◌, nat_lt, Float}
use Rattle.refusal.specs.declared.Refusal.{Refusal}
use Rattle.sample.specs.Samples.{zero}
use Rattle.region.specs.declared.Region.{Region}
use Rattle.region.specs.Positions.{along, has}
use Rattle.formulas.specs.declared.Operands.{Operands}
use Rattle.blend.specs.declared.records.BlendMode.{BlendMode}
use Rattle.blend.specs.declared.records.BlendingInfo.{BlendingInfo}
use Rattle.blend.specs.declared.records.PatchBlendingInfo.{PatchBlendingInfo}
use Rattle.blend.specs.Tables.{frame_mode, patch_mode, formula}
use Rattle.machine.specs.declared.calls.Header.{Header}
use Rattle.machine.specs.declared.calls.Shown.{Shown}
use Rattle.machine.specs.declared.calls.Shown.TheVariants.{Outside, Empty, Sample}
use Rattle.machine.specs.Calls.{Canvas, Image, Patch, Call, opening, patching, blending, abandoning, clearing, Answer, done, opened, refused}
use Rattle.machine.specs.Checks.{Setup, channels_of, frame_info, patch_info, record_of, checks, first_broken, start_checks, kind_of, slots_of_stage}
use Rattle.machine.specs.declared.calls.Size.{Size}

-- ---- what is drawn where

-- the channels and positions that a canvas has
abbrev pub on_canvas : Setup → ℕ → ℤ → ℤ → Bool
on_canvas s c x y = nat_lt c (channels_of s) && has s.region x y

-- The part of a frame that its picture covers, in the frame's own coordinates: within the picture's region and the frame's sides.
abbrev pub covered : Header → Region → ℤ → ℤ → Bool
covered h region x y = has region x y && (along (pos 0) h.width x && along (pos 0) h.height y)

-- the same on the canvas: moved by the origin, as far as the canvas goes
abbrev pub drawn : Setup → Header → Region → ℕ → ℤ → ℤ → Bool
drawn s h region c x y = on_canvas s c x y && covered h region (x -ℤ h.left) (y -ℤ h.top)

-- the part of the frame that a patch meets, on the canvas
abbrev pub patch_meets : Header → Patch → ℤ → ℤ → Bool
patch_meets h p x y =
    along p.x p.rectangle.width (x -ℤ h.left) && along p.y p.rectangle.height (y -ℤ h.top)

-- ---- what the formulas read

-- an image put onto the canvas: its position (left, top) comes to stand at (x, y)
abbrev pub placed : Image → (left top x y : ℤ) → Canvas
placed image left top x y c at down = image.values c ((at -ℤ x) +ℤ left) ((down -ℤ y) +ℤ top)

-- old and new at one position, each with its alpha
abbrev pub operands : (old new : Canvas) (alpha c : ℕ) → ℤ → ℤ → Operands
operands old new alpha c x y = record { base = old c x y; new = new c x y; base_alpha = old alpha x y; new_alpha = new alpha x y }

abbrev pub blank : Canvas
blank c x y = zero

-- a slot as it is read: 0.0 throughout where it is empty
abbrev pub canvas_of : Option Canvas → Canvas
canvas_of (Some canvas) = canvas
canvas_of None = blank

-- ---- the state of a started stage

pub record Frame : Type 0 where
  pub header : Header
  pub infos : List BlendingInfo
  pub region : Region
  pub canvas : Canvas

pub record Work : Type 0 where
  pub slots : ℕ → Option Canvas
  pub frame : Option Frame
  pub last : ℕ

-- all slots begin empty
abbrev pub begun : Work
begun = record { slots = λ k. None; frame = None; last = 0 }

abbrev pub filled : ℕ → Option Canvas → (ℕ → Option Canvas) → ℕ → Option Canvas
filled slot canvas slots k = cond (k == slot) canvas (slots k)

-- ---- what the calls make

-- stand in for a record that is missing; no call gets so far without one for each channel
abbrev pub no_frame_info : BlendingInfo
no_frame_info = frame_info (record { mode = 0; alpha = 0; clamp = false; source = 0 })

abbrev pub no_patch_info : PatchBlendingInfo
no_patch_info = patch_info (record { mode = 0; alpha = 0; clamp = false })

-- the picture, over the part that it covers
abbrev pub copied : Setup → Header → Image → Canvas
copied s h image c x y = cond (drawn s h image.region c x y) (placed image (pos 0) (pos 0) h.left h.top c x y) zero

-- nothing, or a formula
abbrev pub by_patch : Option BlendMode → Operands → Float
by_patch None o = o.base
by_patch (Some mode) o = formula mode o

-- the frame with a patch: where they meet, each channel by its record, from the frame as it stood before
abbrev pub patched : Setup → Frame → Patch → Canvas
patched s f p c x y =
    let info = record_of no_patch_info s.colors (map patch_info p.records) c in
    let sheet = placed p.sheet p.rectangle.left p.rectangle.top (f.header.left +ℤ p.x) (f.header.top +ℤ p.y) in
    cond (drawn s f.header f.region c x y && patch_meets f.header p x y)
    (by_patch (patch_mode c s.colors info s.kinds) (operands f.canvas sheet (s.colors + info.alpha_channel) c x y))
    (f.canvas c x y)

-- the target: where the frame is drawn, each channel by its record from the record's source; elsewhere the source's sample
abbrev pub blended : Setup → (ℕ → Option Canvas) → Frame → Canvas
blended s slots f c x y =
    let info = record_of no_frame_info s.colors f.infos c in
    let old = canvas_of (slots info.source) in
    cond (on_canvas s c x y)
    (cond (drawn s f.header f.region c x y)
    (formula (frame_mode c s.colors info s.kinds) (operands old f.canvas (s.colors + info.alpha_channel) c x y))
    (old c x y))
    zero

abbrev pub with_frame : Work → Option Frame → Work
with_frame w frame = record { slots = w.slots; frame = frame; last = w.last }

abbrev pub frame_patched : Setup → Patch → Frame → Frame
frame_patched s p f = record { header = f.header; infos = f.infos; region = f.region; canvas = patched s f p }

-- the target filled, the frame spent, its number the last
abbrev pub work_blended : Setup → Work → Frame → Work
work_blended s w f =
    record { slots = filled f.header.target (Some (blended s w.slots f)) w.slots; frame = None; last = f.header.number }

abbrev pub on_frame : Option Frame → Work → (Frame → Work) → Work
on_frame None w next = w
on_frame (Some f) w next = next f

-- a call that is taken
abbrev pub taken : Setup → Work → Call → Work
taken s w (opening h records image) =
    with_frame w (Some (record { header = h; infos = map frame_info records; region = image.region; canvas = copied s h image }))
taken s w (patching stamp p) = on_frame w.frame w (λ f. with_frame w (Some (frame_patched s p f)))
taken s w (blending stamp) = on_frame w.frame w (work_blended s w)
taken s w (abandoning stamp) = with_frame w None
taken s w (clearing slot) = record { slots = filled slot None w.slots; frame = w.frame; last = w.last }

abbrev pub given : Setup → Call → Answer
given s (opening h records image) = opened (record { mark = s.mark; number = h.number })
given s (patching stamp p) = done
given s (blending stamp) = done
given s (abandoning stamp) = done
given s (clearing slot) = done

-- ---- the machine

abbrev pub open_number : Option Frame → Option ℕ
open_number None = None
open_number (Some f) = Some f.header.number

abbrev pub refusal : Size → Setup → Work → Call → Option Refusal
refusal size s w call = first_broken (checks size s (open_number w.frame) w.last call)

-- a refusal changes nothing
abbrev pub unless_refused : {X : Type 0} → Option Refusal → (Refusal → X) → X → X
unless_refused None denied allowed = allowed
unless_refused (Some r) denied allowed = denied r

abbrev pub next : Size → Setup → Work → Call → Work
next size s w call = unless_refused (refusal size s w call) (λ r. w) (taken s w call)

abbrev pub answer : Size → Setup → Work → Call → Answer
answer size s w call = unless_refused (refusal size s w call) refused (given s call)

abbrev pub run : Size → Setup → Work → List Call → Work
run size s w [] = w
run size s w (call ∷ calls) = run size s (next size s w call) calls

abbrev pub answers : Size → Setup → Work → List Call → List Answer
answers size s w [] = []
answers size s w (call ∷ calls) = answer size s w call ∷ answers size s (next size s w call) calls

-- a stage is started with what start took, where it refused nothing
abbrev pub start_refusal : Size → Region → ℕ → List ℕ → Option Refusal
start_refusal size region colors kinds = first_broken (start_checks size region colors kinds)

abbrev pub setup_of : ℕ → Region → ℕ → List ℕ → Setup
setup_of mark region colors kinds = record { mark = mark; region = region; colors = colors; kinds = map kind_of kinds }

-- ---- what a slot shows

abbrev pub shown_of : Option Canvas → ℕ → ℤ → ℤ → Shown
shown_of None c x y = Empty
shown_of (Some canvas) c x y = Sample (canvas c x y)

-- outside comes first: a slot, a channel or a position that there is not
abbrev pub show : Setup → Work → (slot channel : ℕ) → ℤ → ℤ → Shown
show s w k c x y =
    cond (nat_lt k slots_of_stage && on_canvas s c x y) (shown_of (w.slots k) c x y) Outside
