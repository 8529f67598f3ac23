-- What a call does to a stage: its answer, its book, and every place of the store. Each call of a stage ensures one of these two relations.
use Rattle.std.specs.Prelude.{◌≡◌, ℕ, ◌-◌, Bool, true, false, ◌&&◌, List, map, ℤ, pos, ◌+ℤ◌, Some, None, Option, nat_le, nat_lt, slice_set, Float}
use Rattle.refusal.specs.declared.Refusal.{Refusal}
use Rattle.refusal.specs.declared.Refusal.TheVariants.{NotStarted, AlreadyStarted}
use Rattle.sample.specs.Samples.{zero}
use Rattle.region.specs.declared.Region.{Region}
use Rattle.store.specs.Held.{Held, Changed}
use Rattle.machine.specs.declared.calls.Header.{Header}
use Rattle.machine.specs.Calls.{Canvas, Image, Patch, Call, opening, patching, blending, abandoning, clearing, Answer, refused}
use Rattle.machine.specs.Checks.{Setup, channels_of, frame_info}
use Rattle.machine.specs.Machine.{Work, Frame, on_canvas, drawn, patch_meets, copied, patched, blended, given, refusal, unless_refused, start_refusal, setup_of}
use Rattle.views.specs.View.{Opened, Book, fresh, View, size_of, frame_slot, plane_of, work_at}

-- ---- what a call that is taken paints: a canvas, on the planes of one slot, where it says

pub record Painting : Type 0 where
  pub slot : ℕ
  pub where_to : ℕ → ℤ → ℤ → Bool
  pub canvas : Canvas

abbrev pub on_frame : Option Frame → (Frame → Painting) → Option Painting
on_frame None paint = None
on_frame (Some f) paint = Some (paint f)

abbrev pub painting : Setup → Work → Call → Option Painting
painting s w (opening h records image) =
    Some (record { slot = frame_slot; where_to = drawn s h image.region; canvas = copied s h image })
painting s w (patching stamp p) =
    on_frame w.frame
    (λ f.
    record {
      slot = frame_slot;
      where_to = λ c x y. drawn s f.header f.region c x y && patch_meets f.header p x y;
      canvas = patched s f p;
    })
painting s w (blending stamp) =
    on_frame w.frame (λ f. record { slot = f.header.target; where_to = on_canvas s; canvas = blended s w.slots f })
painting s w (abandoning stamp) = None
painting s w (clearing slot) = None

-- the places that it writes: the slot's planes, at the positions that it names; and what stands there then
abbrev pub paints : Setup → Option Painting → (plane column row : ℕ) → Bool
paints s None p c r = false
paints s (Some a) p c r =
    (nat_le (plane_of s a.slot 0) p && nat_lt p (plane_of s a.slot (channels_of s)))
    && a.where_to (p - plane_of s a.slot 0) (s.region.left +ℤ pos c) (s.region.top +ℤ pos r)

abbrev pub paint_of : Setup → Option Painting → (plane column row : ℕ) → Float
paint_of s None p c r = zero
paint_of s (Some a) p c r = a.canvas (p - plane_of s a.slot 0) (s.region.left +ℤ pos c) (s.region.top +ℤ pos r)

-- ---- what it writes into the book

abbrev pub closed_book : Book → Book
closed_book b = record { filled = b.filled; opened = None; last = b.last }

abbrev pub book_blended : Option Opened → Book → Book
book_blended None b = b
book_blended (Some o) b = record { filled = slice_set b.filled o.header.target true; opened = None; last = o.header.number }

abbrev pub book_taken : Book → Call → Book
book_taken b (opening h records image) =
    record { filled = b.filled; opened = Some (record { header = h; infos = map frame_info records; region = image.region }); last = b.last }
book_taken b (patching stamp p) = b
book_taken b (blending stamp) = book_blended b.opened b
book_taken b (abandoning stamp) = closed_book b
book_taken b (clearing slot) = record { filled = slice_set b.filled slot false; opened = b.opened; last = b.last }

-- ---- the step of a call

-- an unstarted stage refuses everything by one number, and a started one as the definition does at its state
abbrev pub refusal_at : Option Setup → Book → Held → Call → Option Refusal
refusal_at None b h call = Some NotStarted
refusal_at (Some s) b h call = refusal (size_of h) s (work_at s b h) call

abbrev pub given_at : Option Setup → Call → Answer
given_at None call = refused NotStarted
given_at (Some s) call = given s call

abbrev pub painting_at : Option Setup → Book → Held → Call → Option Painting
painting_at None b h call = None
painting_at (Some s) b h call = unless_refused (refusal (size_of h) s (work_at s b h) call) (λ r. None) (painting s (work_at s b h) call)

abbrev pub paints_at : Option Setup → Option Painting → (plane column row : ℕ) → Bool
paints_at None a p c r = false
paints_at (Some s) a p c r = paints s a p c r

abbrev pub paint_at : Option Setup → Option Painting → (plane column row : ℕ) → Float
paint_at None a p c r = zero
paint_at (Some s) a p c r = paint_of s a p c r

pub record Step (v : View) (call : Call) (said : Answer) (w : View) : Type 0 where
  pub setup : w.setup ≡ v.setup
  pub answer : said ≡ unless_refused (refusal_at v.setup v.book v.held call) refused (given_at v.setup call)
  pub book : w.book ≡ unless_refused (refusal_at v.setup v.book v.held call) (λ r. v.book) (book_taken v.book call)
  pub places :
      Changed v.held w.held
      (paints_at v.setup (painting_at v.setup v.book v.held call))
      (paint_at v.setup (painting_at v.setup v.book v.held call))

-- ---- the start

abbrev pub start_refusal_at : Option Setup → Held → Region → ℕ → List ℕ → Option Refusal
start_refusal_at (Some s) h region colors kinds = Some AlreadyStarted
start_refusal_at None h region colors kinds = start_refusal (size_of h) region colors kinds

-- no sample is touched, taken or refused
pub record Start (v : View) (mark : ℕ) (region : Region) (colors : ℕ) (kinds : List ℕ) (said : Option Refusal) (w : View) : Type 0 where
  pub answer : said ≡ start_refusal_at v.setup v.held region colors kinds
  pub setup : w.setup ≡ unless_refused said (λ r. v.setup) (Some (setup_of mark region colors kinds))
  pub book : w.book ≡ unless_refused said (λ r. v.book) fresh
  pub places : Changed v.held w.held (λ p c r. false) (λ p c r. zero)

-- ---- the same by the call

-- the picture, where the frame is drawn
abbrev pub opens : Setup → Header → Image → Painting
opens s h image = record { slot = frame_slot; where_to = drawn s h image.region; canvas = copied s h image }

-- the frame with a patch, where they meet
abbrev pub patches : Setup → Frame → Patch → Painting
patches s f p =
    record {
      slot = frame_slot;
      where_to = λ c x y. drawn s f.header f.region c x y && patch_meets f.header p x y;
      canvas = patched s f p;
    }

-- the target, all of it
abbrev pub fills : Setup → (ℕ → Option Canvas) → Frame → Painting
fills s slots f = record { slot = f.header.target; where_to = on_canvas s; canvas = blended s slots f }

-- a painting has been painted: what stands at every place afterwards
abbrev pub Painted : Setup → Painting → (before after : Held) → Type 0
Painted s a before after = Changed before after (paints s (Some a)) (paint_of s (Some a))
