-- A stage as it stands: what start took, its own book, and what its store holds; and the state of the definition that is read off these.
use Rattle.std.specs.Prelude.{ℕ, ◌+◌, ◌*◌, Bool, false, cond, List, [], ◌∷◌, ℤ, Some, None, Option, slice_index_or}
use Rattle.sample.specs.Samples.{zero}
use Rattle.region.specs.declared.Region.{Region}
use Rattle.picture.specs.Meaning.{Meaning, value_at}
use Rattle.region.specs.Positions.{column_of, row_of}
use Rattle.store.specs.Held.{Held, seen}
use Rattle.blend.specs.declared.records.BlendingInfo.{BlendingInfo}
use Rattle.machine.specs.declared.calls.Header.{Header}
use Rattle.machine.specs.declared.calls.Shown.{Shown}
use Rattle.machine.specs.declared.calls.Shown.TheVariants.{Outside}
use Rattle.machine.specs.Calls.{Canvas, Image}
use Rattle.machine.specs.Checks.{Setup, channels_of}
use Rattle.machine.specs.declared.calls.Size.{Size}
use Rattle.machine.specs.Machine.{Work, Frame, on_canvas, drawn, show}

-- a picture in a call, by what it shows
abbrev pub image_of : Meaning → Image
image_of m = record { channels = m.channels; region = m.region; values = value_at m }

-- ---- the stage's own book

-- the open frame, its samples apart: they lie in the store
pub record Opened : Type 0 where
  pub header : Header
  pub infos : List BlendingInfo
  pub region : Region

pub record Book : Type 0 where
  pub filled : List Bool
  pub opened : Option Opened
  pub last : ℕ

-- after a start that was taken: four empty slots, no frame, no number
abbrev pub fresh : Book
fresh = record { filled = false ∷ (false ∷ (false ∷ (false ∷ []))); opened = None; last = 0 }

pub record View : Type 0 where
  pub setup : Option Setup
  pub book : Book
  pub held : Held

abbrev pub size_of : Held → Size
size_of h = record { columns = h.columns; rows = h.rows; planes = h.planes }

-- ---- where canvases lie

-- the open frame lies behind the four slots
abbrev pub frame_slot : ℕ
frame_slot = 4

-- slot k, channel c is plane k × C + c
abbrev pub plane_of : Setup → (slot channel : ℕ) → ℕ
plane_of s k c = k * channels_of s + c

-- what a slot's planes hold, by channel and position; 0.0 off the canvas
abbrev pub canvas_at : Setup → Held → ℕ → Canvas
canvas_at s h k c x y = cond (on_canvas s c x y) (seen h (plane_of s k c) (column_of s.region x) (row_of s.region y)) zero

-- ---- the definition's state

-- outside its drawn part the open frame's planes hold leftover samples, which nobody reads
abbrev pub frame_at : Setup → Held → Option Opened → Option Frame
frame_at s h None = None
frame_at s h (Some o) =
    Some
    (record {
      header = o.header;
      infos = o.infos;
      region = o.region;
      canvas = λ c x y. cond (drawn s o.header o.region c x y) (canvas_at s h frame_slot c x y) zero;
    })

abbrev pub work_at : Setup → Book → Held → Work
work_at s b h =
    record {
      slots = λ k. cond (slice_index_or b.filled k false) (Some (canvas_at s h k)) None;
      frame = frame_at s h b.opened;
      last = b.last;
    }

-- what show answers
abbrev pub shown_by : Option Setup → Book → Held → (slot channel : ℕ) → ℤ → ℤ → Shown
shown_by None b h k c x y = Outside
shown_by (Some s) b h k c x y = show s (work_at s b h) k c x y

abbrev pub shown_at : View → (slot channel : ℕ) → ℤ → ℤ → Shown
shown_at v k c x y = shown_by v.setup v.book v.held k c x y

-- ---- the same by its parts

-- a slot's canvas, where it is filled
abbrev pub slots_in : Setup → (filled : List Bool) → Held → ℕ → Option Canvas
slots_in s filled h k = cond (slice_index_or filled k false) (Some (canvas_at s h k)) None

-- the open frame, with the samples that it has in the store
abbrev pub frame_in : Setup → Held → Opened → Frame
frame_in s h o =
    record {
      header = o.header;
      infos = o.infos;
      region = o.region;
      canvas = λ c x y. cond (drawn s o.header o.region c x y) (canvas_at s h frame_slot c x y) zero;
    }
