-- Two stages that differ by a change of coordinates are fed calls that differ by it: one induction for crop and shift.
use Rattle.std.proofs.Common.{◌≡◌, ℕ, ◌+◌, Bool, true, false, cond, ◌&&◌, eqb, ltb, List, [], ◌∷◌, ◌++◌, map, ℤ, pos, ◌+ℤ◌, ◌-ℤ◌, Some, None, Option, sym, refl, ap, ◌∙◌, subst, ⊎_elim, arith}
use lib.Ieee.{Float}
use Rattle.std.proofs.lemmas.Int.{ints}
use Rattle.std.proofs.lemmas.Bool.{cases_Bool, cond-false, and_right}
use Rattle.refusal.specs.declared.Refusal.{Refusal}
use Rattle.refusal.specs.declared.Refusal.TheVariants as why
use Rattle.sample.specs.Samples.{zero}
use Rattle.region.specs.declared.Region.{Region}
use Rattle.region.specs.Bounds.{side_allowed, place_allowed}
use Rattle.region.specs.Positions.{along, has}
use Rattle.blend.specs.declared.records.BlendingInfo.{BlendingInfo}
use Rattle.blend.specs.Tables.{frame_mode, patch_mode, formula}
use Rattle.machine.specs.declared.calls.Header.{Header}
use Rattle.machine.specs.declared.calls.FrameRecord.{FrameRecord}
use Rattle.machine.specs.declared.calls.Shown.TheVariants.{Outside, Sample}
use Rattle.machine.specs.Calls.{Canvas, Image, Patch, Call, opening, patching, blending, abandoning, clearing, refused}
use Rattle.machine.specs.declared.calls.Stamp.{Stamp}
use Rattle.machine.specs.Checks.{Setup, Check, fits_store, channels_of, patch_info, record_of, open_checks, patch_checks, ticket_checks, closed, first_broken, ◌unless◌, slots_of_stage}
use Rattle.machine.specs.declared.calls.Size.{Size}
use Rattle.machine.specs.Machine.{Work, Frame, begun, covered, canvas_of, copied, patched, blended, by_patch, no_patch_info, no_frame_info, filled, taken, open_number, refusal, unless_refused, given, next, run, answers, show, shown_of}
use Rattle.machine.specs.Laws.{Alike, Crop, Shift, call_moved, OriginAllowed, AllOf}

sub_sum : (x l p : ℤ) → (x -ℤ (l +ℤ p)) ≡ ((x -ℤ l) -ℤ p)
sub_sum x l p = omega (arith, ints)

-- a header with another origin, a setup with another region
abbrev header_at : Header → ℤ → ℤ → Header
header_at h left top =
    record { number = h.number; left = left; top = top; width = h.width; height = h.height; target = h.target }

abbrev in_region : Setup → Region → Setup
in_region s region = record { mark = s.mark; region = region; colors = s.colors; kinds = s.kinds }

abbrev framed : Header → List BlendingInfo → Region → Canvas → Frame
framed h infos region canvas = record { header = h; infos = infos; region = region; canvas = canvas }

abbrev without_first : List Check → List Check
without_first [] = []
without_first (c ∷ cs) = cs

-- Positions (x, y) of the first stage go to (tx x, ty y) of the second, whose region is r.
module _ (r : Region) (tx ty : ℤ → ℤ) where
  -- ---- what goes with the positions

  -- a canvas: the second shows the first, throughout its region, in every channel that a record may name
  abbrev Same : Canvas → Canvas → Type 0
  Same one two = (c : ℕ) (x y : ℤ) → has r (tx x) (ty y) ≡ true → two c (tx x) (ty y) ≡ one c x y

  -- an origin
  record Origin (h : Header) (left top : ℤ) : Type 0 where
    across : (x : ℤ) → (tx x -ℤ left) ≡ (x -ℤ h.left)
    down : (y : ℤ) → (ty y -ℤ top) ≡ (y -ℤ h.top)

  data SlotRel : Option Canvas → Option Canvas → Type 0 where
    empty : SlotRel None None
    full : {one two : Canvas} → Same one two → SlotRel (Some one) (Some two)

  data FrameRel : Option Frame → Option Frame → Type 0 where
    shut : FrameRel None None
    drawing :
        (h : Header) (left top : ℤ) (infos : List BlendingInfo) (region : Region) (one two : Canvas)
        → Origin h left top
        → Same one two
        → FrameRel (Some (framed h infos region one)) (Some (framed (header_at h left top) infos region two))

  data WorkRel : Work → Work → Type 0 where
    works :
        (p q : ℕ → Option Canvas) (f g : Option Frame) (last : ℕ)
        → ((k : ℕ) → SlotRel (p k) (q k))
        → FrameRel f g
        → WorkRel (record { slots = p; frame = f; last = last }) (record { slots = q; frame = g; last = last })

  -- an opening stays as allowed as it was; the other calls name no position of the canvas
  data CallRel : Call → Call → Type 0 where
    opens :
        (h : Header) (left top : ℤ) (records : List FrameRecord) (image : Image)
        → Origin h left top
        → (place_allowed left && place_allowed top) ≡ (place_allowed h.left && place_allowed h.top)
        → CallRel (opening h records image) (opening (header_at h left top) records image)
    patches : (stamp : Stamp) (p : Patch) → CallRel (patching stamp p) (patching stamp p)
    blends : (stamp : Stamp) → CallRel (blending stamp) (blending stamp)
    abandons : (stamp : Stamp) → CallRel (abandoning stamp) (abandoning stamp)
    clears : (slot : ℕ) → CallRel (clearing slot) (clearing slot)

  data CallsRel : List Call → List Call → Type 0 where
    end : CallsRel [] []
    more : {c d : Call} {cs ds : List Call} → CallRel c d → CallsRel cs ds → CallsRel (c ∷ cs) (d ∷ ds)

  begun_rel : WorkRel begun begun
  begun_rel = works _ _ _ _ _ (λ k. empty) shut

  canvas_same : (one two : Option Canvas) → SlotRel one two → Same (canvas_of one) (canvas_of two)
  canvas_same _ _ empty c x y h = refl
  canvas_same _ _ (full s) c x y h = s c x y h

  filled_rel :
      (slot : ℕ) (one two : Option Canvas) (p q : ℕ → Option Canvas)
      → SlotRel one two
      → ((k : ℕ) → SlotRel (p k) (q k))
      → (k : ℕ) → SlotRel (filled slot one p k) (filled slot two q k)
  filled_rel slot one two p q s t k = either (eqb k slot)
    where
      either : (b : Bool) → SlotRel (cond b one (p k)) (cond b two (q k))
      either true = s
      either false = t k

  number_same : (f g : Option Frame) → FrameRel f g → open_number g ≡ open_number f
  number_same _ _ shut = refl
  number_same _ _ (drawing h left top infos region one two o s) = refl

  module _ (a : Setup) (inside : (x y : ℤ) → has r (tx x) (ty y) ≡ true → has a.region x y ≡ true) where
    has_same : (x y : ℤ) → has r (tx x) (ty y) ≡ true → has r (tx x) (ty y) ≡ has a.region x y
    has_same x y t = t ∙ sym (inside x y t)

    -- ---- what is drawn: each value depends on a position by whether the region has it, and by where it lies from the origin

    module _ (h : Header) (left top : ℤ) (o : Origin h left top) where
      copied_same : (image : Image) → Same (copied a h image) (copied (in_region a r) (header_at h left top) image)
      copied_same image c x y t =
          let here = has_same x y t in
          λ i.
          cond ((ltb c (channels_of a) && here i) && covered h image.region (o.across x i) (o.down y i))
          (image.values c (o.across x i +ℤ pos 0) (o.down y i +ℤ pos 0)) zero

      patched_same :
          (infos : List BlendingInfo) (region : Region) (p : Patch) (one two : Canvas)
          → Same one two
          → Same (patched a (framed h infos region one) p) (patched (in_region a r) (framed (header_at h left top) infos region two) p)
      patched_same infos region p one two s c x y t =
          let here = has_same x y t in
          let info = record_of no_patch_info a.colors (map patch_info p.records) c in
          let alpha = a.colors + info.alpha_channel in
          let across : (tx x -ℤ (left +ℤ p.x)) ≡ (x -ℤ (h.left +ℤ p.x)) =
          sub_sum (tx x) left p.x ∙ ap (λ z. z -ℤ p.x) (o.across x) ∙ sym (sub_sum x h.left p.x)
          in
          let down : (ty y -ℤ (top +ℤ p.y)) ≡ (y -ℤ (h.top +ℤ p.y)) =
          sub_sum (ty y) top p.y ∙ ap (λ z. z -ℤ p.y) (o.down y) ∙ sym (sub_sum y h.top p.y)
          in
          let sheet : 𝕀 → ℕ → Float =
          λ i k. p.sheet.values k (across i +ℤ p.rectangle.left) (down i +ℤ p.rectangle.top)
          in
          λ i.
          cond
          (((ltb c (channels_of a) && here i) && covered h region (o.across x i) (o.down y i))
          && (along p.x p.rectangle.width (o.across x i) && along p.y p.rectangle.height (o.down y i)))
          (by_patch (patch_mode c a.colors info a.kinds)
          (record { base = s c x y t i; new = sheet i c; base_alpha = s alpha x y t i; new_alpha = sheet i alpha }))
          (s c x y t i)

      blended_same :
          (infos : List BlendingInfo) (region : Region) (one two : Canvas) (p q : ℕ → Option Canvas)
          → Same one two
          → ((k : ℕ) → SlotRel (p k) (q k))
          → Same (blended a p (framed h infos region one)) (blended (in_region a r) q (framed (header_at h left top) infos region two))
      blended_same infos region one two p q s slots c x y t =
          let here = has_same x y t in
          let info = record_of no_frame_info a.colors infos c in
          let alpha = a.colors + info.alpha_channel in
          let old = canvas_same _ _ (slots info.source) in
          λ i.
          cond (ltb c (channels_of a) && here i)
          (cond ((ltb c (channels_of a) && here i) && covered h region (o.across x i) (o.down y i))
          (formula (frame_mode c a.colors info a.kinds)
          (record { base = old c x y t i; new = s c x y t i; base_alpha = old alpha x y t i; new_alpha = s alpha x y t i }))
          (old c x y t i))
          zero

    taken_rel : (w v : Work) (c d : Call) → WorkRel w v → CallRel c d → WorkRel (taken a w c) (taken (in_region a r) v d)
    taken_rel _ _ _ _ (works p q f g last slots frames) (opens h left top records image o allowed) =
        works p q _ _ last slots (drawing h left top _ _ _ _ o (copied_same h left top o image))
    taken_rel _ _ _ _ (works p q _ _ last slots shut) (patches stamp s) = works p q _ _ last slots shut
    taken_rel _ _ _ _ (works p q _ _ last slots (drawing h left top infos region one two o t)) (patches stamp s) =
        works p q _ _ last slots (drawing h left top infos region _ _ o (patched_same h left top o infos region s one two t))
    taken_rel _ _ _ _ (works p q _ _ last slots shut) (blends stamp) = works p q _ _ last slots shut
    taken_rel _ _ _ _ (works p q _ _ last slots (drawing h left top infos region one two o t)) (blends stamp) =
        works _ _ _ _ h.number
        (filled_rel h.target _ _ p q (full (blended_same h left top o infos region one two p q t slots)) slots) shut
    taken_rel _ _ _ _ (works p q f g last slots frames) (abandons stamp) = works p q _ _ last slots shut
    taken_rel _ _ _ _ (works p q f g last slots frames) (clears slot) = works _ _ f g last (filled_rel slot _ _ p q empty slots) frames

    -- ---- what is answered: no refusal looks at the region or at a sample, as long as both stores fit

    module _ (sizeA sizeB : Size) (fits : fits_store sizeB (in_region a r) ≡ fits_store sizeA a) where
      refusal_same : (w v : Work) (c d : Call) → WorkRel w v → CallRel c d → refusal sizeB (in_region a r) v d ≡ refusal sizeA a w c
      refusal_same _ _ _ _ (works p q f g last slots frames) (opens h left top records image o allowed) =
          let number = number_same f g frames in
          λ i.
          first_broken
          (((why.FrameLimits unless ((side_allowed h.width && side_allowed h.height) && allowed i))
          ∷ without_first (open_checks a h records image))
          ++ ((why.FrameOpen unless closed (number i))
          ∷ ((why.FrameNumber unless ltb last h.number) ∷ ((why.OutsideStore unless fits i) ∷ []))))
      refusal_same _ _ _ _ (works p q f g last slots frames) (patches stamp s) =
          let number = number_same f g frames in
          λ i. first_broken (patch_checks a s ++ (ticket_checks a (number i) stamp ++ ((why.OutsideStore unless fits i) ∷ [])))
      refusal_same _ _ _ _ (works p q f g last slots frames) (blends stamp) =
          let number = number_same f g frames in
          λ i. first_broken (ticket_checks a (number i) stamp ++ ((why.OutsideStore unless fits i) ∷ []))
      refusal_same _ _ _ _ (works p q f g last slots frames) (abandons stamp) =
          ap (λ number. first_broken (ticket_checks a number stamp)) (number_same f g frames)
      refusal_same _ _ _ _ (works p q f g last slots frames) (clears slot) =
          ap
          (λ number. first_broken ((why.SlotNumber unless ltb slot slots_of_stage) ∷ ((why.FrameOpen unless closed number) ∷ [])))
          (number_same f g frames)

      given_same : (c d : Call) → CallRel c d → given (in_region a r) d ≡ given a c
      given_same _ _ (opens h left top records image o allowed) = refl
      given_same _ _ (patches stamp s) = refl
      given_same _ _ (blends stamp) = refl
      given_same _ _ (abandons stamp) = refl
      given_same _ _ (clears slot) = refl

      next_rel : (w v : Work) (c d : Call) → WorkRel w v → CallRel c d → WorkRel (next sizeA a w c) (next sizeB (in_region a r) v d)
      next_rel w v c d t u =
          subst (λ o. WorkRel (next sizeA a w c) (unless_refused o (λ _. v) (taken (in_region a r) v d)))
          (sym (refusal_same w v c d t u)) (either (refusal sizeA a w c))
        where
          either :
              (o : Option Refusal)
              → WorkRel (unless_refused o (λ _. w) (taken a w c)) (unless_refused o (λ _. v) (taken (in_region a r) v d))
          either None = taken_rel w v c d t u
          either (Some refusal) = t

      run_rel :
          (cs ds : List Call)
          → CallsRel cs ds
          → (w v : Work) → WorkRel w v → WorkRel (run sizeA a w cs) (run sizeB (in_region a r) v ds)
      run_rel _ _ end w v t = t
      run_rel _ _ (more {c} {d} {cs} {ds} u us) w v t = run_rel cs ds us _ _ (next_rel w v c d t u)

      answers_same :
          (cs ds : List Call)
          → CallsRel cs ds
          → (w v : Work) → WorkRel w v → answers sizeB (in_region a r) v ds ≡ answers sizeA a w cs
      answers_same _ _ end w v t = refl
      answers_same _ _ (more {c} {d} {cs} {ds} u us) w v t =
          let one = refusal_same w v c d t u in
          let two = given_same c d u in
          let later = answers_same cs ds us _ _ (next_rel w v c d t u) in
          λ i. unless_refused (one i) refused (two i) ∷ later i

    -- ---- what is shown

    shown_same :
        (one two : Option Canvas)
        → SlotRel one two
        → (c : ℕ) (x y : ℤ) → has r (tx x) (ty y) ≡ true → shown_of two c (tx x) (ty y) ≡ shown_of one c x y
    shown_same _ _ empty c x y t = refl
    shown_same _ _ (full s) c x y t = ap Sample (s c x y t)

    show_same :
        (w v : Work)
        → WorkRel w v
        → (k c : ℕ) (x y : ℤ) → has r (tx x) (ty y) ≡ true → show (in_region a r) v k c (tx x) (ty y) ≡ show a w k c x y
    show_same _ _ (works p q f g last slots frames) k c x y t =
        let here = has_same x y t in
        let shown = shown_same _ _ (slots k) c x y t in
        λ i. cond (ltb k slots_of_stage && (ltb c (channels_of a) && here i)) (shown i) Outside

-- Two stages alike answer the same to calls that go with the positions, and show the same throughout the second region.
module _ (sizeA sizeB : Size) (a b : Setup) (alike : Alike sizeA a sizeB b) (tx ty : ℤ → ℤ) (inside : (x y : ℤ) → has b.region (tx x) (ty y) ≡ true → has a.region x y ≡ true) where
  RunsSame : List Call → List Call → Setup → Type 0
  RunsSame cs ds s =
      (answers sizeB s begun ds ≡ answers sizeA a begun cs)
      × ((k c : ℕ) (x y : ℤ)
      → has b.region (tx x) (ty y) ≡ true
      → show s (run sizeB s begun ds) k c (tx x) (ty y) ≡ show a (run sizeA a begun cs) k c x y)

  runs_same : (cs ds : List Call) → CallsRel b.region tx ty cs ds → RunsSame cs ds b
  unfolding RunsSame
  runs_same cs ds rel =
      let r = b.region in
      let same : in_region a r ≡ b =
      λ i. record { mark = sym alike.mark i; region = r; colors = sym alike.colors i; kinds = sym alike.kinds i }
      in
      let fits = ap (fits_store sizeB) same ∙ alike.fits_b ∙ sym alike.fits_a in
      let start = begun_rel r tx ty in
      subst (RunsSame cs ds) same (
        answers_same r tx ty a inside sizeA sizeB fits cs ds rel begun begun start,
        show_same r tx ty a inside _ _ (run_rel r tx ty a inside sizeA sizeB fits cs ds rel begun begun start),
      )

-- ---- crop: every position and every origin stays

call_stays : (r : Region) (call : Call) → CallRel r (λ x. x) (λ y. y) call call
call_stays r (opening h records image) = opens h h.left h.top records image (record { across = λ x. refl; down = λ y. refl }) refl
call_stays r (patching stamp p) = patches stamp p
call_stays r (blending stamp) = blends stamp
call_stays r (abandoning stamp) = abandons stamp
call_stays r (clearing slot) = clears slot

calls_stay : (r : Region) (calls : List Call) → CallsRel r (λ x. x) (λ y. y) calls calls
calls_stay r [] = end
calls_stay r (call ∷ calls) = more (call_stays r call) (calls_stay r calls)

pub crop : Crop
unfolding RunsSame
crop sizeA sizeB a b alike holds calls =
    runs_same sizeA sizeB a b alike (λ x. x) (λ y. y) holds calls calls (calls_stay b.region calls)

-- ---- shift: every position and every origin moves

sub_moved : (x l d : ℤ) → ((x +ℤ d) -ℤ (l +ℤ d)) ≡ (x -ℤ l)
sub_moved x l d = omega (arith, ints)

module _ (r : Region) (dx dy : ℤ) where
  call_moves : (call : Call) → OriginAllowed call → OriginAllowed (call_moved dx dy call) → CallRel r (λ x. x +ℤ dx) (λ y. y +ℤ dy) call (call_moved dx dy call)
  call_moves (opening h records image) here there =
      opens h (h.left +ℤ dx) (h.top +ℤ dy) records image
      (record { across = λ x. sub_moved x h.left dx; down = λ y. sub_moved y h.top dy }) (there ∙ sym here)
  call_moves (patching stamp p) here there = patches stamp p
  call_moves (blending stamp) here there = blends stamp
  call_moves (abandoning stamp) here there = abandons stamp
  call_moves (clearing slot) here there = clears slot

  calls_move : (calls : List Call) → AllOf OriginAllowed calls → AllOf OriginAllowed (map (call_moved dx dy) calls) → CallsRel r (λ x. x +ℤ dx) (λ y. y +ℤ dy) calls (map (call_moved dx dy) calls)
  calls_move [] here there = end
  calls_move (call ∷ calls) here there = more (call_moves call here.0 there.0) (calls_move calls here.1 there.1)

show_outside : (s : Setup) (w : Work) (k c : ℕ) (x y : ℤ) → has s.region x y ≡ false → show s w k c x y ≡ Outside
show_outside s w k c x y e = cond-false _ _ _ (and_right (ltb k slots_of_stage) _ (and_right (ltb c (channels_of s)) _ e))

pub shift : Shift
unfolding RunsSame
shift sizeA sizeB a b dx dy alike moved calls here there =
    let calls' = map (call_moved dx dy) calls in
    let same =
    runs_same sizeA sizeB a b alike (λ x. x +ℤ dx) (λ y. y +ℤ dy) (λ x y t. sym (moved x y) ∙ t) calls calls'
    (calls_move b.region dx dy calls here there)
    in (
      same.0,
      λ k c x y.
          ⊎_elim (same.1 k c x y)
          (λ e.
          show_outside b (run sizeB b begun calls') k c (x +ℤ dx) (y +ℤ dy) e
          ∙ sym (show_outside a (run sizeA a begun calls) k c x y (sym (moved x y) ∙ e)))
          (cases_Bool (has b.region (x +ℤ dx) (y +ℤ dy))),
    )
