-- What canvases a store holds after a painting: on the painted slot the new samples where it says, on every other what was there.
use Rattle.std.proofs.Common.{◌≡◌, ℕ, ◌<◌, Bool, true, false, cond, ◌&&◌, ℤ, Some, None, sym, refl, ◌∙◌, ⊎_elim}
use mathlib.Core.Path.{fun_ext}
use Rattle.std.proofs.lemmas.Bool.{cases_Bool, and_parts, and_left, and_right, cond-true, cond-false, cond_both, ltb-true}
use Rattle.sample.specs.Samples.{zero}
use Rattle.region.specs.Positions.{column_of, row_of}
use Rattle.store.specs.Held.{Held, seen, Changed}
use Rattle.machine.specs.Calls.{Canvas}
use Rattle.machine.specs.Checks.{Setup, channels_of, fits_store}
use Rattle.machine.specs.Machine.{on_canvas}
use Rattle.views.specs.View.{size_of, plane_of, canvas_at}
use Rattle.views.specs.Step.{Painting, paints, paint_of}
use Rattle.views.proofs.Places.{step_back, own_plane, own_channel, other_plane, place_inside}

-- what a slot's planes hold at a position, and what its canvas shows there if the canvas has it
abbrev held_at : Setup → Held → ℕ → Canvas
held_at s h k c x y = seen h (plane_of s k c) (column_of s.region x) (row_of s.region y)

on_canvas_lem : (s : Setup) (h : Held) (k c : ℕ) (x y : ℤ) → on_canvas s c x y ≡ true → canvas_at s h k c x y ≡ held_at s h k c x y
on_canvas_lem s h k c x y on = cond-true (on_canvas s c x y) (held_at s h k c x y) zero on

-- two stores that hold the same on the canvas show the same
canvas_same :
    (s : Setup) (a b : Held) (k : ℕ)
    → ((c : ℕ) (x y : ℤ) → on_canvas s c x y ≡ true → held_at s b k c x y ≡ held_at s a k c x y)
    → canvas_at s b k ≡ canvas_at s a k
canvas_same s a b k same = fun_ext (λ c. fun_ext (λ x. fun_ext (λ y. either c x y (on_canvas s c x y) refl)))
  where
    either :
        (c : ℕ) (x y : ℤ) (on : Bool)
        → on_canvas s c x y ≡ on
        → cond on (held_at s b k c x y) zero ≡ cond on (held_at s a k c x y) zero
    either c x y true e = same c x y e
    either c x y false e = refl

-- nothing is painted: every slot shows what it showed
pub painted_none : (s : Setup) (a b : Held) → Changed a b (paints s None) (paint_of s None) → canvas_at s b ≡ canvas_at s a
painted_none s a b change =
    fun_ext (λ k. canvas_same s a b k (λ c x y on. change.places _ _ _ ∙ cond-false _ _ _ (and_right _ false refl)))

module _ (s : Setup) (a b : Held) (p : Painting) (change : Changed a b (paints s (Some p)) (paint_of s (Some p))) where
  pub painted_other : (k : ℕ) → (k ≡ p.slot → ⊥) → canvas_at s b k ≡ canvas_at s a k
  painted_other k other =
      canvas_same s a b k
      (λ c x y on.
      let small = ltb-true c (channels_of s) (and_parts _ _ on).0 in
      change.places _ _ _
      ∙ cond-false _ _ _ (and_right _ _ (and_left _ _ (other_plane (channels_of s) k c small p.slot other))))

  pub painted_here :
      fits_store (size_of a) s ≡ true
      → p.slot < 5
      → (c : ℕ) (x y : ℤ)
      → on_canvas s c x y ≡ true
      → canvas_at s b p.slot c x y ≡ cond (p.where_to c x y) (p.canvas c x y) (canvas_at s a p.slot c x y)
  painted_here fits slots c x y on =
      let parts = and_parts _ _ on in
      let here = and_parts _ _ parts.1 in
      let small = ltb-true c (channels_of s) parts.0 in
      let inner = place_inside s a p.slot c x y fits slots on in
      let own = own_plane (channels_of s) p.slot c small in
      let channel = own_channel (channels_of s) p.slot c small in
      let across = step_back s.region.left x s.region.width here.0 in
      let down = step_back s.region.top y s.region.height here.1 in
      let before = sym (on_canvas_lem s a p.slot c x y on) in
      on_canvas_lem s b p.slot c x y on
      ∙ change.places _ _ _
      ∙ (λ i. cond (inner i && (own i && p.where_to (channel i) (across i) (down i))) (p.canvas (channel i) (across i) (down i)) (before i))

  -- a canvas that is read under a mask, within which all is painted or already stands there, is the one painted
  pub painted_under :
      fits_store (size_of a) s ≡ true
      → p.slot < 5
      → (mask : ℕ → ℤ → ℤ → Bool)
      → ((c : ℕ) (x y : ℤ) → mask c x y ≡ true → on_canvas s c x y ≡ true)
      → ((c : ℕ) (x y : ℤ) → mask c x y ≡ false → p.canvas c x y ≡ zero)
      → ((c : ℕ) (x y : ℤ) → mask c x y ≡ true → p.where_to c x y ≡ false → p.canvas c x y ≡ canvas_at s a p.slot c x y)
      → (λ c x y. cond (mask c x y) (canvas_at s b p.slot c x y) zero) ≡ p.canvas
  painted_under fits slots mask on off stays =
      fun_ext (λ c.
      fun_ext (λ x.
      fun_ext (λ y.
      let before = canvas_at s a p.slot c x y in
      ⊎_elim
      (λ t.
      cond-true (mask c x y) (canvas_at s b p.slot c x y) zero t
      ∙ painted_here fits slots c x y (on c x y t)
      ∙ cond_both (p.where_to c x y) (p.canvas c x y) before (λ v. v ≡ p.canvas c x y) (λ _. refl) (λ e. sym (stays c x y t e)))
      (λ e. cond-false (mask c x y) (canvas_at s b p.slot c x y) zero e ∙ sym (off c x y e))
      (cases_Bool (mask c x y)))))
