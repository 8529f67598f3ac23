-- A whole frame is accepted or not whatever the slots hold, and makes one work, in which its number is only the last one.
use Rattle.std.proofs.Common.{◌≡◌, ℕ, Bool, true, false, cond, ◌&&◌, eqb, ltb, List, [], ◌∷◌, ◌++◌, map, Some, None, Option, sym, refl, ap, ◌∙◌, subst, arith}
use Rattle.std.proofs.lemmas.Bool.{cond-false, and_from, eq-eqb, not_from_true, not-false}
use Rattle.refusal.specs.declared.Refusal.{Refusal}
use Rattle.refusal.specs.declared.Refusal.TheVariants as why
use Rattle.machine.specs.Calls.{Canvas, Patch, Call, opening, patching, blending, abandoning, clearing, Answer, refused}
use Rattle.machine.specs.declared.calls.Stamp.{Stamp}
use Rattle.machine.specs.Checks.{Setup, Check, fits_store, frame_info, open_checks, patch_checks, closed, checks, first_broken, ◌unless◌}
use Rattle.machine.specs.declared.calls.Size.{Size}
use Rattle.machine.specs.Machine.{Work, Frame, copied, patched, with_frame, work_blended, taken, open_number, refusal, unless_refused, next, answer, given, run, answers}
use Rattle.machine.specs.Laws.{Whole, AllOf, Accepted, header_numbered, calls_of}

-- ---- nothing is refused where no condition is broken

abbrev pub Unbroken : List Check → Type 0
Unbroken = AllOf (λ c. c.broken ≡ false)

first_none : (b : Bool) (r : Refusal) (later : Option Refusal) → cond b (Some r) later ≡ None → (b ≡ false) × (later ≡ None)
first_none true r later h = let z : ◌≡◌ {A = ℕ} 0 1 = cc in absurd (omega arith)
first_none false r later h = (refl, h)

pub none_unbroken : (cs : List Check) → first_broken cs ≡ None → Unbroken cs
none_unbroken [] h = tt
none_unbroken (c ∷ cs) h = let both = first_none c.broken _ _ h in (both.0, none_unbroken cs both.1)

unbroken_none : (cs : List Check) → Unbroken cs → first_broken cs ≡ None
unbroken_none [] h = refl
unbroken_none (c ∷ cs) h = cond-false c.broken _ _ h.0 ∙ unbroken_none cs h.1

unbroken_append : (cs ds : List Check) → Unbroken cs → Unbroken ds → Unbroken (cs ++ ds)
unbroken_append [] ds h k = k
unbroken_append (c ∷ cs) ds h k = (h.0, unbroken_append cs ds h.1 k)

unbroken_parts : (cs ds : List Check) → Unbroken (cs ++ ds) → Unbroken cs × Unbroken ds
unbroken_parts [] ds h = (tt, h)
unbroken_parts (c ∷ cs) ds h = let later = unbroken_parts cs ds h.1 in ((h.0, later.0), later.1)

not_refused : (o : Option Refusal) (answer : Answer) → Accepted (unless_refused o refused answer) → o ≡ None
not_refused None answer h = refl
not_refused (Some r) answer h = absurd h

frame_none : (f : Option Frame) → closed (open_number f) ≡ true → f ≡ None
frame_none None e = refl
frame_none (Some f) e = let z : ◌≡◌ {A = ℕ} 0 1 = cc in absurd (omega arith)

-- ---- calls of which each is taken

-- the work after them
abbrev pub after : Setup → List Call → Work → Work
after s [] w = w
after s (call ∷ calls) w = after s calls (taken s w call)

pub after_append : (s : Setup) (xs ys : List Call) (w : Work) → after s (xs ++ ys) w ≡ after s ys (after s xs w)
after_append s [] ys w = refl
after_append s (x ∷ xs) ys w = after_append s xs ys (taken s w x)

module _ (size : Size) (s : Setup) where
  abbrev pub UnbrokenAt : Work → Call → Type 0
  UnbrokenAt w call = Unbroken (checks size s (open_number w.frame) w.last call)

  abbrev pub AllTaken : List Call → Work → Type 0
  AllTaken [] w = Unit {0}
  AllTaken (call ∷ calls) w = UnbrokenAt w call × AllTaken calls (taken s w call)

  next-taken : (w : Work) (call : Call) → UnbrokenAt w call → next size s w call ≡ taken s w call
  next-taken w call h = ap (λ o. unless_refused o (λ r. w) (taken s w call)) (unbroken_none (checks size s _ _ call) h)

  pub accepted_taken : (calls : List Call) (w : Work) → AllOf Accepted (answers size s w calls) → AllTaken calls w
  accepted_taken [] w h = tt
  accepted_taken (call ∷ calls) w h =
      let fine = none_unbroken (checks size s _ _ call) (not_refused (refusal size s w call) (given s call) h.0) in
      (fine, subst (AllTaken calls) (next-taken w call fine) (accepted_taken calls (next size s w call) h.1))

  given_accepted : (call : Call) → Accepted (given s call)
  given_accepted (opening h records image) = tt
  given_accepted (patching stamp p) = tt
  given_accepted (blending stamp) = tt
  given_accepted (abandoning stamp) = tt
  given_accepted (clearing slot) = tt

  pub taken_accepted : (calls : List Call) (w : Work) → AllTaken calls w → AllOf Accepted (answers size s w calls)
  taken_accepted [] w h = tt
  taken_accepted (call ∷ calls) w h = (
    subst (λ o. Accepted (unless_refused o refused (given s call))) (sym (unbroken_none (checks size s _ _ call) h.0)) (given_accepted call),
    subst (λ v. AllOf Accepted (answers size s v calls)) (sym (next-taken w call h.0)) (taken_accepted calls (taken s w call) h.1),
  )

  pub run_after : (calls : List Call) (w : Work) → AllTaken calls w → run size s w calls ≡ after s calls w
  run_after [] w h = refl
  run_after (call ∷ calls) w h =
      ap (λ v. run size s v calls) (next-taken w call h.0) ∙ run_after calls (taken s w call) h.1

  pub taken_append : (xs ys : List Call) (w : Work) → AllTaken xs w → AllTaken ys (after s xs w) → AllTaken (xs ++ ys) w
  taken_append [] ys w h k = k
  taken_append (x ∷ xs) ys w h k = (h.0, taken_append xs ys (taken s w x) h.1 k)

  pub taken_parts : (xs ys : List Call) (w : Work) → AllTaken (xs ++ ys) w → AllTaken xs w × AllTaken ys (after s xs w)
  taken_parts [] ys w h = (tt, h)
  taken_parts (x ∷ xs) ys w h = let later = taken_parts xs ys (taken s w x) h.1 in ((h.0, later.0), later.1)

-- ---- whole frames

-- the frame of a whole one, as it stands with this canvas
abbrev frame_of : ℕ → Whole → Canvas → Frame
frame_of number f canvas =
    record { header = header_numbered number f.header; infos = map frame_info f.records; region = f.image.region; canvas = canvas }

-- patches one after another; none looks at the number
abbrev after_patches : Setup → Whole → List Patch → Canvas → Canvas
after_patches s f [] canvas = canvas
after_patches s f (p ∷ ps) canvas = after_patches s f ps (patched s (frame_of 0 f canvas) p)

-- the frame's canvas when it is blended, and the frame
abbrev pub picture : Setup → Whole → Canvas
picture s f = after_patches s f f.patches (copied s f.header f.image)

abbrev pub finished : Setup → ℕ → Whole → Frame
finished s number f = frame_of number f (picture s f)

-- what is asked of a whole frame, and of the work that it comes to
pub record Fine (size : Size) (s : Setup) (f : Whole) : Type 0 where
  pub opens : Unbroken (open_checks s f.header f.records f.image)
  pub patches : AllOf (λ p. Unbroken (patch_checks s p)) f.patches
  pub fits : fits_store size s ≡ true

pub record Ready (w : Work) (number : ℕ) : Type 0 where
  pub shut : w.frame ≡ None
  pub later : ltb w.last number ≡ true

module _ (s : Setup) (w : Work) (number : ℕ) (f : Whole) where
  -- the work with this frame open
  abbrev drawing : Canvas → Work
  drawing canvas = with_frame w (Some (frame_of number f canvas))

  abbrev stamp : Stamp
  stamp = record { mark = s.mark; number = number }

  patches_after :
      (ps : List Patch) (rest : List Call) (canvas : Canvas)
      → after s (map (patching stamp) ps ++ rest) (drawing canvas) ≡ after s rest (drawing (after_patches s f ps canvas))
  patches_after [] rest canvas = refl
  patches_after (p ∷ ps) rest canvas = patches_after ps rest (patched s (frame_of 0 f canvas) p)

  pub whole_after : after s (calls_of s.mark number f) w ≡ work_blended s w (finished s number f)
  whole_after = patches_after f.patches (blending stamp ∷ []) (copied s f.header f.image)

  module _ (size : Size) where
    -- what the state decides on its opening, and on a call with its ticket
    abbrev open_state : List Check
    open_state =
        (why.FrameOpen unless closed (open_number w.frame))
        ∷ ((why.FrameNumber unless ltb w.last number) ∷ ((why.OutsideStore unless fits_store size s) ∷ []))

    abbrev ticket_state : List Check
    ticket_state =
        (why.WrongTicket unless (eqb s.mark s.mark && eqb number number)) ∷ ((why.OutsideStore unless fits_store size s) ∷ [])

    ticket_fine : fits_store size s ≡ true → Unbroken ticket_state
    ticket_fine fits =
        (not_from_true _ (and_from _ _ (eq-eqb s.mark s.mark refl) (eq-eqb number number refl)), (not_from_true _ fits, tt))

    patches-taken :
        (ps : List Patch) (canvas : Canvas)
        → fits_store size s ≡ true
        → AllOf (λ p. Unbroken (patch_checks s p)) ps
        → AllTaken size s (map (patching stamp) ps ++ (blending stamp ∷ [])) (drawing canvas)
    patches-taken [] canvas fits fine = (ticket_fine fits, tt)
    patches-taken (p ∷ ps) canvas fits fine = (
      unbroken_append (patch_checks s p) ticket_state fine.0 (ticket_fine fits),
      patches-taken ps (patched s (frame_of 0 f canvas) p) fits fine.1,
    )

    patches_fine :
        (ps : List Patch) (rest : List Call) (canvas : Canvas)
        → AllTaken size s (map (patching stamp) ps ++ rest) (drawing canvas)
        → AllOf (λ p. Unbroken (patch_checks s p)) ps
    patches_fine [] rest canvas h = tt
    patches_fine (p ∷ ps) rest canvas h =
        ((unbroken_parts (patch_checks s p) ticket_state h.0).0, patches_fine ps rest (patched s (frame_of 0 f canvas) p) h.1)

    pub whole_taken : Fine size s f → Ready w number → AllTaken size s (calls_of s.mark number f) w
    whole_taken fine ready =
        let shut = ap (λ frame. closed (open_number frame)) ready.shut in
        let state : Unbroken open_state = (not_from_true _ shut, (not_from_true _ ready.later, (not_from_true _ fine.fits, tt))) in (
          unbroken_append (open_checks s f.header f.records f.image) open_state fine.opens state,
          patches-taken f.patches (copied s f.header f.image) fine.fits fine.patches,
        )

    pub whole_fine : AllTaken size s (calls_of s.mark number f) w → Fine size s f × Ready w number
    whole_fine h =
        let parts = unbroken_parts (open_checks s f.header f.records f.image) open_state h.0 in
        let state = parts.1 in (
          record {
            opens = parts.0;
            patches = patches_fine f.patches (blending stamp ∷ []) (copied s f.header f.image) h.1;
            fits = not-false _ state.1.1.0;
          },
          record { shut = frame_none w.frame (not-false _ state.0); later = not-false _ state.1.0 },
        )
