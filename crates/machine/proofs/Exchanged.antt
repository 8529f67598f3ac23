-- Two whole frames over one slot, of which no position is drawn by both, make equal works in either order.
use Rattle.std.proofs.Common.{◌≡◌, ℕ, zero as none, suc, ◌+◌, ◌-◌, ◌<◌, Bool, true, false, cond, ◌&&◌, eqb, ltb, List, [], ◌∷◌, ◌++◌, map, length, get_or, ℤ, ◌-ℤ◌, Some, None, Option, sym, refl, ap, ◌∙◌, subst, ⊎_elim, arith}
use mathlib.Core.Path.{fun_ext}
use lib.Ieee.{Float}
use Rattle.std.proofs.lemmas.Bool.{cases_Bool, cond-true, cond-false, cond_both, and_left, and_cases, eq-eqb, eqb-true, ltb-true, ltb-false, not-false}
use Rattle.refusal.specs.declared.Refusal.{Refusal}
use Rattle.sample.specs.Samples.{zero}
use Rattle.region.specs.Positions.{has}
use Rattle.blend.specs.declared.records.BlendingInfo.{BlendingInfo}
use Rattle.blend.specs.Tables.{frame_mode, formula}
use Rattle.machine.specs.declared.calls.FrameRecord.{FrameRecord}
use Rattle.machine.specs.Calls.{Canvas, Call, opening, patching, blending, abandoning, clearing}
use Rattle.machine.specs.Checks.{Setup, channels_of, count_fits, frame_info, record_of}
use Rattle.machine.specs.declared.calls.Size.{Size}
use Rattle.machine.specs.Machine.{Work, Frame, begun, on_canvas, covered, canvas_of, blended, no_frame_info, filled, with_frame, frame_patched, work_blended, on_frame, taken, refusal, unless_refused, next, run, answers, show}
use Rattle.machine.specs.Laws.{Whole, AllOf, Apart, OnlySlot, Exchange, calls_of}
use Rattle.machine.proofs.Wholes.{AllTaken, accepted_taken, after, after_append, run_after, taken_append, taken_parts, picture, finished, Fine, Ready, whole_after, whole_taken, whole_fine, taken_accepted}

-- ---- off the canvas a slot is 0.0

abbrev ZeroOff : Setup → Canvas → Type 0
ZeroOff s canvas = (c : ℕ) (x y : ℤ) → on_canvas s c x y ≡ false → canvas c x y ≡ zero

abbrev SlotsZeroOff : Setup → (ℕ → Option Canvas) → Type 0
SlotsZeroOff s slots = (k : ℕ) → ZeroOff s (canvas_of (slots k))

module _ (s : Setup) where
  filled_off :
      (slot : ℕ) (canvas : Option Canvas) (slots : ℕ → Option Canvas)
      → ZeroOff s (canvas_of canvas)
      → SlotsZeroOff s slots
      → SlotsZeroOff s (filled slot canvas slots)
  filled_off slot canvas slots h off k =
      cond_both (eqb k slot) canvas (slots k) (λ o. ZeroOff s (canvas_of o)) (λ _. h) (λ _. off k)

  blended_off : (slots : ℕ → Option Canvas) (f : Frame) → ZeroOff s (blended s slots f)
  blended_off slots f c x y e = cond-false (on_canvas s c x y) _ zero e

  taken_off : (w : Work) (call : Call) → SlotsZeroOff s w.slots → SlotsZeroOff s (taken s w call).slots
  taken_off w (opening h records image) off = off
  taken_off w (patching stamp p) off = either w.frame
    where
      either : (f : Option Frame) → SlotsZeroOff s (on_frame f w (λ f. with_frame w (Some (frame_patched s p f)))).slots
      either None = off
      either (Some f) = off
  taken_off w (blending stamp) off = either w.frame
    where
      either : (f : Option Frame) → SlotsZeroOff s (on_frame f w (work_blended s w)).slots
      either None = off
      either (Some f) = filled_off f.header.target (Some (blended s w.slots f)) w.slots (blended_off w.slots f) off
  taken_off w (abandoning stamp) off = off
  taken_off w (clearing slot) off = filled_off slot None w.slots (λ c x y e. refl) off

  next_off : (size : Size) (w : Work) (call : Call) → SlotsZeroOff s w.slots → SlotsZeroOff s (next size s w call).slots
  next_off size w call off = either (refusal size s w call)
    where
      either : (o : Option Refusal) → SlotsZeroOff s (unless_refused o (λ r. w) (taken s w call)).slots
      either None = taken_off w call off
      either (Some r) = off

  run_off : (size : Size) (calls : List Call) (w : Work) → SlotsZeroOff s w.slots → SlotsZeroOff s (run size s w calls).slots
  run_off size [] w off = off
  run_off size (call ∷ calls) w off = run_off size calls (next size s w call) (next_off size w call off)

-- ---- one position: a frame that covers it or not makes samples out of the old ones, channel by channel

abbrev Makes : Type 0
Makes = ℕ → (ℕ → Float) → Float

abbrev over_at : (on : ℕ → Bool) (covers : Bool) (makes : Makes) (old : ℕ → Float) → ℕ → Float
over_at on covers makes old c = cond (on c) (cond (on c && covers) (makes c old) (old c)) zero

module _ (on : ℕ → Bool) where
  over_off : (covers : Bool) (makes : Makes) (old : ℕ → Float) (c : ℕ) → on c ≡ false → over_at on covers makes old c ≡ zero
  over_off covers makes old c e = cond-false (on c) _ zero e

  -- a frame that does not cover the position changes nothing
  over_none :
      (covers : Bool) (makes : Makes) (old : ℕ → Float)
      → covers ≡ false
      → ((c : ℕ) → on c ≡ false → old c ≡ zero)
      → over_at on covers makes old ≡ old
  over_none covers makes old e off = fun_ext (λ c. either c (on c) refl)
    where
      either : (c : ℕ) (b : Bool) → on c ≡ b → cond b (cond (b && covers) (makes c old) (old c)) zero ≡ old c
      either c true t = cond-false covers _ _ e
      either c false t = sym (off c t)

  -- two frames, of which at most one covers the position, trade places
  over_trade :
      (f g : Bool) (makesF makesG : Makes) (old : ℕ → Float)
      → ((c : ℕ) → on c ≡ false → old c ≡ zero)
      → (c : ℕ)
      → ((on c && f) && (on c && g)) ≡ false
      → over_at on g makesG (over_at on f makesF old) c ≡ over_at on f makesF (over_at on g makesG old) c
  over_trade f g makesF makesG old off c apart =
      let overF = over_at on f makesF in
      let overG = over_at on g makesG in
      ⊎_elim
      (λ t.
      ⊎_elim
      (λ e. ap (λ o. overG o c) (over_none f makesF old e off) ∙ sym (ap (λ o. o c) (over_none f makesF (overG old) e (over_off g makesG old))))
      (λ e. ap (λ o. o c) (over_none g makesG (overF old) e (over_off f makesF old)) ∙ sym (ap (λ o. overF o c) (over_none g makesG old e off)))
      (and_cases f g (subst (λ b. ((b && f) && (b && g)) ≡ false) t apart)))
      (λ e. over_off g makesG (overF old) c e ∙ sym (over_off f makesF (overG old) c e))
      (cases_Bool (on c))

-- ---- the canvas: a whole frame over one slot

source_is :
    (slot : ℕ) (records : List FrameRecord) (i : ℕ)
    → i < length records
    → AllOf (λ r. r.source ≡ slot) records
    → (get_or (map frame_info records) i no_frame_info).source ≡ slot
source_is slot [] i h all = absurd (omega arith)
source_is slot (r ∷ records) none h all = all.0
source_is slot (r ∷ records) (suc i) h all = source_is slot records i (omega arith) all.1

module _ (s : Setup) where
  info_of : Whole → ℕ → BlendingInfo
  info_of f = record_of no_frame_info s.colors (map frame_info f.records)

  -- every channel has a record, so its source is the slot
  info_source :
      (slot : ℕ) (f : Whole)
      → OnlySlot slot f
      → count_fits s f.records ≡ true
      → (c : ℕ) → ltb c (channels_of s) ≡ true → (info_of f c).source ≡ slot
  unfolding info_of
  info_source slot f only count c t =
      let many = eqb-true (length f.records) _ count in
      let small = ltb-true c (channels_of s) t in
      source_is slot f.records _
      (cond_both (ltb c s.colors) 0 (suc (c - s.colors)) (λ i. i < length f.records) (λ e. omega arith)
      (λ e. omega (arith, ltb-false c s.colors e)))
      only.sources

  makes : Whole → ℤ → ℤ → Makes
  makes f x y c old =
      let alpha = s.colors + (info_of f c).alpha_channel in
      formula (frame_mode c s.colors (info_of f c) s.kinds)
      (record { base = old c; new = picture s f c x y; base_alpha = old alpha; new_alpha = picture s f alpha x y })

  over : Whole → Canvas → Canvas
  over f old c x y =
      over_at (λ k. on_canvas s k x y) (covered f.header f.image.region (x -ℤ f.header.left) (y -ℤ f.header.top))
      (makes f x y) (λ k. old k x y) c

  blended_over :
      (slot : ℕ) (f : Whole)
      → OnlySlot slot f
      → count_fits s f.records ≡ true
      → (number : ℕ) (slots : ℕ → Option Canvas) → blended s slots (finished s number f) ≡ over f (canvas_of (slots slot))
  unfolding over makes info_of
  blended_over slot f only count number slots =
      fun_ext (λ c.
      fun_ext (λ x.
      fun_ext (λ y.
      ⊎_elim (λ t. ap (λ k. over f (canvas_of (slots k)) c x y) (info_source slot f only count c t))
      (λ e.
      let off = and_left (ltb c (channels_of s)) (has s.region x y) e in
      blended_off s slots (finished s number f) c x y off
      ∙ sym (over_off (λ k. on_canvas s k x y) _ (makes f x y) (λ k. canvas_of (slots slot) k x y) c off))
      (cases_Bool (ltb c (channels_of s))))))

  over_exchange : (f g : Whole) → Apart s f g → (old : Canvas) → ZeroOff s old → over g (over f old) ≡ over f (over g old)
  unfolding over
  over_exchange f g apart old off =
      fun_ext (λ c.
      fun_ext (λ x.
      fun_ext (λ y.
      over_trade (λ k. on_canvas s k x y) _ _ (makes f x y) (makes g x y) (λ k. old k x y) (λ k e. off k x y e) c (apart c x y))))

  -- the second frame finds in the slot what the first has left
  blended_twice :
      (slot : ℕ) (f g : Whole)
      → OnlySlot slot f
      → OnlySlot slot g
      → count_fits s f.records ≡ true
      → count_fits s g.records ≡ true
      → (m n : ℕ) (w : Work)
      → blended s (work_blended s w (finished s m f)).slots (finished s n g) ≡ over g (over f (canvas_of (w.slots slot)))
  blended_twice slot f g only_f onlyG countF countG m n w =
      let made = Some (blended s w.slots (finished s m f)) in
      blended_over slot g onlyG countG n (filled f.header.target made w.slots)
      ∙ ap (λ o. over g (canvas_of o)) (cond-true (eqb slot f.header.target) made (w.slots slot) (eq-eqb _ _ (sym only_f.target)))
      ∙ ap (over g) (blended_over slot f only_f countF m w.slots)

-- a slot filled twice holds what came last
filled_twice :
    (slot t u : ℕ)
    → t ≡ slot
    → u ≡ slot
    → (one two x y : Option Canvas)
    → x ≡ y
    → (slots : ℕ → Option Canvas) → filled t x (filled u two slots) ≡ filled u y (filled t one slots)
filled_twice slot t u p q one two x y e slots =
    let here : filled t x (filled u two slots) ≡ filled slot y (filled slot two slots) = λ i. filled (p i) (e i) (filled (q i) two slots) in
    let there : filled u y (filled t one slots) ≡ filled slot y (filled slot one slots) = λ i. filled (q i) y (filled (p i) one slots) in
    here ∙ fun_ext (λ k. either k (eqb k slot)) ∙ sym there
  where
    either : (k : ℕ) (b : Bool) → cond b y (cond b two (slots k)) ≡ cond b y (cond b one (slots k))
    either k true = refl
    either k false = refl

works_same :
    (s : Setup) (slot : ℕ) (f g : Whole)
    → OnlySlot slot f
    → OnlySlot slot g
    → count_fits s f.records ≡ true
    → count_fits s g.records ≡ true
    → Apart s f g
    → (w : Work)
    → SlotsZeroOff s w.slots
    → (m n : ℕ)
    → work_blended s (work_blended s w (finished s m g)) (finished s n f) ≡ work_blended s (work_blended s w (finished s m f)) (finished s n g)
works_same s slot f g only_f onlyG countF countG apart w off m n =
    let last =
    blended_twice s slot g f onlyG only_f countG countF m n w
    ∙ sym (over_exchange s f g apart (canvas_of (w.slots slot)) (off slot))
    ∙ sym (blended_twice s slot f g only_f onlyG countF countG m n w)
    in
    ap (λ slots. record { slots = slots; frame = None; last = n })
    (filled_twice slot f.header.target g.header.target only_f.target onlyG.target _ _ _ _ (ap Some last) w.slots)

-- ---- the calls: two whole frames, one after the other

pub run_append : (size : Size) (s : Setup) (xs ys : List Call) (w : Work) → run size s w (xs ++ ys) ≡ run size s (run size s w xs) ys
run_append size s [] ys w = refl
run_append size s (x ∷ xs) ys w = run_append size s xs ys (next size s w x)

module _ (size : Size) (s : Setup) (w : Work) (m n : ℕ) (f g : Whole) where
  abbrev both_calls : List Call
  both_calls = calls_of s.mark m f ++ calls_of s.mark n g

  both_fine : AllTaken size s both_calls w → (Fine size s f × Ready w m) × (Fine size s g × (ltb m n ≡ true))
  both_fine h =
      let parts = taken_parts size s (calls_of s.mark m f) (calls_of s.mark n g) w h in
      let second =
      whole_fine s (work_blended s w (finished s m f)) n g size
      (subst (AllTaken size s (calls_of s.mark n g)) (whole_after s w m f) parts.1)
      in
      (whole_fine s w m f size parts.0, (second.0, second.1.later))

  both_taken : Fine size s f → Ready w m → Fine size s g → ltb m n ≡ true → AllTaken size s both_calls w
  both_taken fineF ready fineG rising =
      taken_append size s (calls_of s.mark m f) (calls_of s.mark n g) w (whole_taken s w m f size fineF ready)
      (subst (AllTaken size s (calls_of s.mark n g)) (sym (whole_after s w m f))
      (whole_taken s (work_blended s w (finished s m f)) n g size fineG (record { shut = refl; later = rising })))

  both_run : AllTaken size s both_calls w → run size s w both_calls ≡ work_blended s (work_blended s w (finished s m f)) (finished s n g)
  both_run h =
      run_after size s both_calls w h
      ∙ after_append s (calls_of s.mark m f) (calls_of s.mark n g) w
      ∙ ap (after s (calls_of s.mark n g)) (whole_after s w m f)
      ∙ whole_after s (work_blended s w (finished s m f)) n g

pub exchange : Exchange
exchange size s before f g m n slot later only_f onlyG apart accepted =
    let w = run size s begun before in
    let first = calls_of s.mark m f ++ calls_of s.mark n g in
    let second = calls_of s.mark m g ++ calls_of s.mark n f in
    let h = accepted_taken size s first w accepted in
    let fine = both_fine size s w m n f g h in
    let fineF = fine.0.0 in
    let fineG = fine.1.0 in
    let other = both_taken size s w m n g f fineG fine.0.1 fineF fine.1.1 in
    let same =
    run_append size s before second begun
    ∙ both_run size s w m n g f other
    ∙ works_same s slot f g only_f onlyG (not-false _ fineF.opens.1.1.0) (not-false _ fineG.opens.1.1.0) apart w
    (run_off s size before begun (λ k c x y e. refl)) m n
    ∙ sym (both_run size s w m n f g h)
    ∙ sym (run_append size s before first begun)
    in
    (taken_accepted size s second w other, ap (λ v. answers size s v later) same, λ k c x y. ap (λ v. show s (run size s v later) k c x y) same)
