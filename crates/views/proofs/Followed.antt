-- Every run follows the definition: a view stands for a state of it, each step leads to one that stands for the next, and the answers are its own.
use Rattle.std.proofs.Common.{◌≡◌, ℕ, zero as none, suc, ◌+◌, Bool, true, false, ltb, List, [], ◌∷◌, ◌++◌, map, length, get_or, ℤ, Some, None, Option, sym, refl, ap, ◌∙◌, subst, arith}
use mathlib.Core.Path.{fun_ext}
use lib.Ieee.{Float}
use Rattle.std.proofs.lemmas.List.{length-map}
use Rattle.std.proofs.lemmas.Bool.{and_parts, and_from, cond-false, eqb-true, leb-true, le-leb, not-false}
use Rattle.refusal.specs.declared.Refusal.{Refusal}
use Rattle.refusal.specs.declared.Refusal.TheVariants as why
use Rattle.region.specs.declared.Region.{Region}
use Rattle.store.specs.Held.{Held, Changed}
use Rattle.machine.specs.Calls.{Call, opening, patching, blending, abandoning, clearing, Answer, refused}
use Rattle.machine.specs.Checks.{Setup, fits_store, planes_needed, kind_of, argument_checks, ticket_checks, closed, checks, start_checks, first_broken, ◌unless◌}
use Rattle.machine.specs.declared.calls.Size.{Size}
use Rattle.machine.specs.Machine.{Work, begun, taken, open_number, refusal, start_refusal, unless_refused, given, next, answer, run, answers, show, setup_of}
use Rattle.views.specs.View.{Book, fresh, View, size_of, frame_at, work_at, shown_by, shown_at}
use Rattle.views.specs.Step.{painting, paints, paint_of, book_taken, start_refusal_at, Step}
use Rattle.views.specs.Runs.{Ran, still, step, Run}
use Rattle.views.proofs.Painted.{painted_none}
use Rattle.machine.proofs.Wholes.{none_unbroken}
use Rattle.views.proofs.Taken.{Sound, sound_taken, taken_tied, work_kept}

-- sizes count only by whether the setup fits
pub record Stands (size : Size) (s : Setup) (w : Work) (v : View) : Type 0 where
  pub setup : v.setup ≡ Some s
  pub fits : fits_store (size_of v.held) s ≡ fits_store size s
  pub work : work_at s v.book v.held ≡ w
  pub sound : Sound v.book

pub shown : {size : Size} {s : Setup} {w : Work} {v : View} → Stands size s w v → (k c : ℕ) (x y : ℤ) → shown_at v k c x y ≡ show s w k c x y
shown {s} {v} here k c x y =
    ap (λ o. shown_by o v.book v.held k c x y) here.setup ∙ ap (λ w. show s w k c x y) here.work

-- ---- one step

-- a refused call changes nothing, and one that is taken does what the definition says
followed :
    (s : Setup) (a b : Held) (book after : Book) (call : Call) (r : Option Refusal)
    → Sound book
    → refusal (size_of a) s (work_at s book a) call ≡ r
    → after ≡ unless_refused r (λ _. book) (book_taken book call)
    → Changed a b (paints s (unless_refused r (λ _. None) (painting s (work_at s book a) call)))
    (paint_of s (unless_refused r (λ _. None) (painting s (work_at s book a) call)))
    → (work_at s after b ≡ unless_refused r (λ _. work_at s book a) (taken s (work_at s book a) call)) × Sound after
followed s a b book after call None sound e told change =
    let n = open_number (frame_at s a book.opened) in
    let fine = none_unbroken (checks (size_of a) s n book.last call) e in (
      ap (λ k. work_at s k b) told ∙ taken_tied s a b book.filled book.opened book.last call sound fine change,
      subst Sound (sym told) (sound_taken (size_of a) s n book.filled book.opened book.last call fine sound),
    )
followed s a b book after call (Some r) sound e told change =
    (ap (λ k. work_at s k b) told ∙ work_kept s a b book (painted_none s a b change), subst Sound (sym told) sound)

refusal_same : (one two : Size) (s : Setup) (w : Work) (call : Call) → fits_store one s ≡ fits_store two s → refusal one s w call ≡ refusal two s w call
refusal_same one two s w (opening h records image) e =
    ap
    (λ fits.
    first_broken
    (argument_checks s (opening h records image)
    ++ ((why.FrameOpen unless closed (open_number w.frame))
    ∷ ((why.FrameNumber unless ltb w.last h.number) ∷ ((why.OutsideStore unless fits) ∷ [])))))
    e
refusal_same one two s w (patching stamp p) e =
    ap
    (λ fits.
    first_broken
    (argument_checks s (patching stamp p) ++ (ticket_checks s (open_number w.frame) stamp ++ ((why.OutsideStore unless fits) ∷ []))))
    e
refusal_same one two s w (blending stamp) e =
    ap (λ fits. first_broken (ticket_checks s (open_number w.frame) stamp ++ ((why.OutsideStore unless fits) ∷ []))) e
refusal_same one two s w (abandoning stamp) e = refl
refusal_same one two s w (clearing slot) e = refl

size_kept : {a b : Held} {when : ℕ → ℕ → ℕ → Bool} {value : ℕ → ℕ → ℕ → Float} → Changed a b when value → size_of b ≡ size_of a
size_kept change i = record { columns = change.columns i; rows = change.rows i; planes = change.planes i }

module _ (size : Size) (s : Setup) where
  abbrev Follows : Work → Call → Answer → View → Type 0
  Follows w call said u = (said ≡ answer size s w call) × Stands size s (next size s w call) u

  step_follows : {w : Work} {v u : View} {call : Call} {said : Answer} → Stands size s w v → Step v call said u → Follows w call said u
  step_follows {w} {v} {u} {call} {said} here made =
      let a = v.held in
      let book = v.book in
      let before = work_at s book a in
      let done = subst (λ o. Step (record { setup = o; book = book; held = a }) call said u) here.setup made in
      let both = followed s a u.held book u.book call (refusal (size_of a) s before call) here.sound refl done.book done.places in
      let same = refusal_same (size_of a) size s before call here.fits in
      let now : Follows before call said u = (
        done.answer ∙ ap (λ r. unless_refused r refused (given s call)) same,
        record {
          setup = done.setup;
          fits = ap (λ z. fits_store z s) (size_kept done.places) ∙ here.fits;
          work = both.0 ∙ ap (λ r. unless_refused r (λ _. before) (taken s before call)) same;
          sound = both.1;
        },
      )
      in
      subst (λ w. Follows w call said u) here.work now

  -- ---- a run of steps

  pub ran_follows :
      (w : Work) (v u : View) (calls : List Call) (said : List Answer)
      → Stands size s w v
      → Ran v calls said u
      → (said ≡ answers size s w calls) × Stands size s (run size s w calls) u
  ran_follows w _ _ _ _ here still = (refl, here)
  ran_follows w _ _ _ _ here (step {v} {u} {w = end} {call} {said} {calls} {later} one more) =
      let first = step_follows here one in
      let rest = ran_follows (next size s w call) u end calls later first.1 more in
      (λ i. first.0 i ∷ rest.0 i, rest.1)

-- ---- the start

start-taken :
    (o : Option Setup) (h : Held) (region : Region) (colors : ℕ) (kinds : List ℕ)
    → None ≡ start_refusal_at o h region colors kinds
    → start_refusal (size_of h) region colors kinds ≡ None
start-taken None h region colors kinds e = sym e
start-taken (Some s) h region colors kinds e = let z : ◌≡◌ {A = ℕ} 0 1 = cc in absurd (omega arith)

start_fits :
    (size : Size) (mark : ℕ) (region : Region) (colors : ℕ) (kinds : List ℕ)
    → start_refusal size region colors kinds ≡ None
    → fits_store size (setup_of mark region colors kinds) ≡ true
start_fits size mark region colors kinds e =
    let parts = and_parts _ _ (not-false _ (none_unbroken (start_checks size region colors kinds) e).1.1.0) in
    let sides = and_parts _ _ parts.0 in
    let wide = eqb-true size.columns region.width sides.0 in
    let high = eqb-true size.rows region.height sides.1 in
    let deep = leb-true (planes_needed (colors + length kinds)) size.planes parts.1 in
    and_from _ _ (and_from _ _ (le-leb region.width size.columns (omega arith)) (le-leb region.height size.rows (omega arith)))
    (le-leb (planes_needed (colors + length (map kind_of kinds))) size.planes (omega (arith, length-map kinds kind_of)))

fresh_empty : (k : ℕ) → get_or fresh.filled k false ≡ false
fresh_empty none = refl
fresh_empty (suc none) = refl
fresh_empty (suc (suc none)) = refl
fresh_empty (suc (suc (suc none))) = refl
fresh_empty (suc (suc (suc (suc k)))) = refl

fresh-begun : (s : Setup) (h : Held) → work_at s fresh h ≡ begun
fresh-begun s h =
    ap (λ slots. record { slots = slots; frame = None; last = 0 }) (fun_ext (λ k. cond-false (get_or fresh.filled k false) _ None (fresh_empty k)))

module _
    {mark : ℕ} {region : Region} {colors : ℕ} {kinds : List ℕ} {calls : List Call} {said : List Answer} {w : View}
    (r : Run mark region colors kinds calls said w) where
  pub run_fits : fits_store (size_of r.unstarted.held) (setup_of mark region colors kinds) ≡ true
  run_fits =
      start_fits _ mark region colors kinds
      (start-taken r.unstarted.setup r.unstarted.held region colors kinds r.start.answer)

  -- the size may be any that fits
  pub run_follows :
      let s = setup_of mark region colors kinds in
      (size : Size)
      → fits_store size s ≡ true
      → (said ≡ answers size s begun calls) × Stands size s (run size s begun calls) w
  run_follows size fits =
      let s = setup_of mark region colors kinds in
      ran_follows size s begun r.started w calls said
      (record {
        setup = r.start.setup;
        fits = ap (λ z. fits_store z s) (size_kept r.start.places) ∙ run_fits ∙ sym fits;
        work = ap (λ book. work_at s book r.started.held) r.start.book ∙ fresh-begun s r.started.held;
        sound = subst Sound (sym r.start.book) (record { four = refl; target = tt });
      })
      r.ran
