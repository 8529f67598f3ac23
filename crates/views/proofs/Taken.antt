-- A call that is taken makes of what the book and the store show what the definition makes of it.
use Rattle.std.proofs.Common.{◌≡◌, ℕ, ◌<◌, Bool, true, false, cond, ◌&&◌, eqb, List, [], ◌∷◌, ◌++◌, map, length, get_or, set, Some, None, Option, sym, refl, ap, ◌∙◌, subst, ⊎_elim, arith}
use mathlib.Core.Path.{fun_ext}
use lib.Ieee.{Float}
use Rattle.std.proofs.lemmas.List.{get_or_past, get_or-set_same, get_or-set_other, length-set}
use Rattle.std.proofs.lemmas.Bool.{cases_eq, and_parts, and_left, cond-true, cond-false, eq-eqb, ne_eqb, ltb-true, not-false, both_ways}
use Rattle.sample.specs.Samples.{zero}
use Rattle.store.specs.Held.{Held, Changed}
use Rattle.machine.specs.declared.calls.Header.{Header}
use Rattle.machine.specs.declared.calls.FrameRecord.{FrameRecord}
use Rattle.machine.specs.Calls.{Canvas, Image, Patch, Call, opening, patching, blending, abandoning, clearing}
use Rattle.machine.specs.declared.calls.Stamp.{Stamp}
use Rattle.machine.specs.Checks.{Setup, Check, fits_store, checks, argument_checks, state_checks, frame_info}
use Rattle.machine.specs.declared.calls.Size.{Size}
use Rattle.machine.specs.Machine.{Frame, on_canvas, drawn, patch_meets, copied, patched, blended, filled, taken, open_number}
use Rattle.machine.proofs.Wholes.{Unbroken}
use Rattle.views.specs.View.{Opened, Book, size_of, frame_slot, canvas_at, frame_at, work_at}
use Rattle.views.specs.Step.{Painting, painting, paints, paint_of, book_taken}
use Rattle.views.proofs.Painted.{painted_other, painted_under, painted_none}

-- ---- conditions that are not broken

unbroken_end : (cs ds : List Check) → Unbroken (cs ++ ds) → Unbroken ds
unbroken_end [] ds h = h
unbroken_end (c ∷ cs) ds h = unbroken_end cs ds h.1

-- ---- a sound book: four slots, and a frame that goes to one of them

abbrev pub TargetBelow : Option Opened → Type 0
TargetBelow None = Unit {0}
TargetBelow (Some o) = o.header.target < 4

pub record Sound (b : Book) : Type 0 where
  pub four : length b.filled ≡ 4
  pub target : TargetBelow b.opened

abbrev pub book_of : List Bool → Option Opened → ℕ → Book
book_of slots o last = record { filled = slots; opened = o; last = last }

module _ (size : Size) (s : Setup) (n : Option ℕ) where
  pub sound_taken :
      (slots : List Bool) (o : Option Opened) (last : ℕ) (call : Call)
      → Unbroken (checks size s n last call)
      → Sound (book_of slots o last)
      → Sound (book_taken (book_of slots o last) call)
  sound_taken slots o last (opening h records image) fine sound =
      record { four = sound.four; target = ltb-true _ _ (and_parts _ _ (not-false _ fine.1.0)).0 }
  sound_taken slots o last (patching stamp p) fine sound = sound
  sound_taken slots None last (blending stamp) fine sound = sound
  sound_taken slots (Some o) last (blending stamp) fine sound =
      record { four = length-set slots o.header.target true ∙ sound.four; target = tt }
  sound_taken slots o last (abandoning stamp) fine sound = record { four = sound.four; target = tt }
  sound_taken slots o last (clearing slot) fine sound = record { four = length-set slots slot false ∙ sound.four; target = sound.target }

-- ---- slots: which are filled, and with what

abbrev slots_of : List Bool → (ℕ → Canvas) → ℕ → Option Canvas
slots_of slots canvases k = cond (get_or slots k false) (Some (canvases k)) None

-- the frame's planes are those of no slot
slots_kept :
    (slots : List Bool) (f g : ℕ → Canvas)
    → length slots ≡ 4
    → ((k : ℕ) → (k ≡ frame_slot → ⊥) → f k ≡ g k)
    → slots_of slots f ≡ slots_of slots g
slots_kept slots f g four same =
    fun_ext (λ k.
    ⊎_elim
    (λ e.
    let none = get_or_past slots k false (omega arith) in
    cond-false (get_or slots k false) (Some (f k)) None none ∙ sym (cond-false (get_or slots k false) (Some (g k)) None none))
    (λ other. ap (λ canvas. cond (get_or slots k false) (Some canvas) None) (same k other))
    (cases_eq k frame_slot))

-- one slot is filled or emptied
slots_set :
    (slots : List Bool) (slot : ℕ) (full : Bool) (f g : ℕ → Canvas) (here : Option Canvas)
    → slot < length slots
    → cond full (Some (f slot)) None ≡ here
    → ((k : ℕ) → (k ≡ slot → ⊥) → f k ≡ g k)
    → slots_of (set slots slot full) f ≡ filled slot here (slots_of slots g)
slots_set slots slot full f g here small new same =
    fun_ext (λ k.
    ⊎_elim
    (λ (e : k ≡ slot).
    ap (λ j. slots_of (set slots slot full) f j) e
    ∙ ap (λ b. cond b (Some (f slot)) None) (get_or-set_same slots slot full false small)
    ∙ new
    ∙ sym (cond-true (eqb k slot) here (slots_of slots g k) (eq-eqb k slot e)))
    (λ (other : k ≡ slot → ⊥).
    ap (λ b. cond b (Some (f k)) None) (get_or-set_other slots slot k full false other)
    ∙ ap (λ canvas. cond (get_or slots k false) (Some canvas) None) (same k other)
    ∙ sym (cond-false (eqb k slot) here (slots_of slots g k) (ne_eqb k slot other)))
    (cases_eq k slot))

cond_twice : (b : Bool) (v z : Float) → cond b (cond b v z) z ≡ cond b v z
cond_twice true v z = refl
cond_twice false v z = refl

-- ---- the work after a call that is taken

module _ (s : Setup) (a b : Held) where
  frame_kept : (o : Option Opened) → canvas_at s b frame_slot ≡ canvas_at s a frame_slot → frame_at s b o ≡ frame_at s a o
  frame_kept None same = refl
  frame_kept (Some o) same =
      ap
      (λ canvas.
      Some
      (record {
        header = o.header;
        infos = o.infos;
        region = o.region;
        canvas = λ c x y. cond (drawn s o.header o.region c x y) (canvas c x y) zero;
      }))
      same

  pub work_kept : (book : Book) → canvas_at s b ≡ canvas_at s a → work_at s book b ≡ work_at s book a
  work_kept book same i =
      record {
        slots = slots_of book.filled (same i);
        frame = frame_kept book.opened (λ j. same j frame_slot) i;
        last = book.last;
      }

  abbrev pub Tied : Book → Call → Type 0
  Tied book call =
      Changed a b (paints s (painting s (work_at s book a) call)) (paint_of s (painting s (work_at s book a) call))
      → work_at s (book_taken book call) b ≡ taken s (work_at s book a) call

  abbrev frame_of : Opened → Frame
  frame_of o =
      record {
        header = o.header;
        infos = o.infos;
        region = o.region;
        canvas = λ c x y. cond (drawn s o.header o.region c x y) (canvas_at s a frame_slot c x y) zero;
      }

  module _ (slots : List Bool) (last : ℕ) (four : length slots ≡ 4) (fits : fits_store (size_of a) s ≡ true) where
    opening_tied : (o : Option Opened) (h : Header) (records : List FrameRecord) (image : Image) → Tied (book_of slots o last) (opening h records image)
    opening_tied o h records image change =
        let p : Painting = record { slot = frame_slot; where_to = drawn s h image.region; canvas = copied s h image } in
        let canvas =
        painted_under s a b p change fits (omega arith) (drawn s h image.region) (λ c x y t. (and_parts _ _ t).0)
        (λ c x y e. cond-false (drawn s h image.region c x y) _ zero e) (λ c x y t e. absurd (both_ways _ e t))
        in
        λ i.
        record {
          slots = slots_kept slots (canvas_at s b) (canvas_at s a) four (painted_other s a b p change) i;
          frame = Some (record { header = h; infos = map frame_info records; region = image.region; canvas = canvas i });
          last = last;
        }

    patching_tied : (o : Opened) (stamp : Stamp) (patch : Patch) → Tied (book_of slots (Some o) last) (patching stamp patch)
    patching_tied o stamp patch change =
        let f = frame_of o in
        let mask = drawn s o.header o.region in
        let p : Painting =
        record { slot = frame_slot; where_to = λ c x y. mask c x y && patch_meets o.header patch x y; canvas = patched s f patch }
        in
        let canvas =
        painted_under s a b p change fits (omega arith) mask (λ c x y t. (and_parts _ _ t).0)
        (λ c x y e.
        cond-false (mask c x y && patch_meets o.header patch x y) _ _ (and_left (mask c x y) _ e) ∙ cond-false (mask c x y) _ zero e)
        (λ c x y t e. cond-false (mask c x y && patch_meets o.header patch x y) _ _ e ∙ cond-true (mask c x y) _ zero t)
        in
        λ i.
        record {
          slots = slots_kept slots (canvas_at s b) (canvas_at s a) four (painted_other s a b p change) i;
          frame = Some (record { header = o.header; infos = o.infos; region = o.region; canvas = canvas i });
          last = last;
        }

    blending_tied : (o : Opened) (stamp : Stamp) → o.header.target < 4 → Tied (book_of slots (Some o) last) (blending stamp)
    blending_tied o stamp small change =
        let f = frame_of o in
        let target = o.header.target in
        let p : Painting = record { slot = target; where_to = on_canvas s; canvas = blended s (slots_of slots (canvas_at s a)) f } in
        let canvas : canvas_at s b target ≡ p.canvas =
        sym (fun_ext (λ c. fun_ext (λ x. fun_ext (λ y. cond_twice (on_canvas s c x y) _ zero))))
        ∙ painted_under s a b p change fits (omega arith) (on_canvas s) (λ c x y t. t) (λ c x y e. cond-false (on_canvas s c x y) _ zero e)
        (λ c x y t e. absurd (both_ways _ e t))
        in
        ap (λ made. record { slots = made; frame = None; last = o.header.number })
        (slots_set slots target true (canvas_at s b) (canvas_at s a) (Some p.canvas) (omega arith) (ap Some canvas)
        (painted_other s a b p change))

  state_fine : (n : Option ℕ) (last : ℕ) (call : Call) → Unbroken (checks (size_of a) s n last call) → Unbroken (state_checks (size_of a) s n last call)
  state_fine n last call fine = unbroken_end (argument_checks s call) (state_checks (size_of a) s n last call) fine

  pub taken_tied :
      (slots : List Bool) (o : Option Opened) (last : ℕ) (call : Call)
      → Sound (book_of slots o last)
      → Unbroken (checks (size_of a) s (open_number (frame_at s a o)) last call)
      → Tied (book_of slots o last) call
  taken_tied slots o last (opening h records image) sound fine change =
      let state = state_fine (open_number (frame_at s a o)) last (opening h records image) fine in
      opening_tied slots last sound.four (not-false _ state.1.1.0) o h records image change
  taken_tied slots None last (patching stamp patch) sound fine change = work_kept (book_of slots None last) (painted_none s a b change)
  taken_tied slots (Some o) last (patching stamp patch) sound fine change =
      let state = state_fine (Some o.header.number) last (patching stamp patch) fine in
      patching_tied slots last sound.four (not-false _ state.1.0) o stamp patch change
  taken_tied slots None last (blending stamp) sound fine change = work_kept (book_of slots None last) (painted_none s a b change)
  taken_tied slots (Some o) last (blending stamp) sound fine change =
      blending_tied slots last sound.four (not-false _ fine.1.0) o stamp sound.target change
  taken_tied slots o last (abandoning stamp) sound fine change = work_kept (book_of slots None last) (painted_none s a b change)
  taken_tied slots o last (clearing slot) sound fine change =
      let same = painted_none s a b change in
      λ i.
      record {
        slots =
            slots_set slots slot false (canvas_at s b) (canvas_at s a) None
            (subst (λ n. slot < n) (sym sound.four) (ltb-true slot 4 (not-false _ fine.0))) refl (λ k _. λ j. same j k) i;
        frame = frame_kept o (λ j. same j frame_slot) i;
        last = last;
      }
