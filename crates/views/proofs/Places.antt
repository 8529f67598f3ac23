-- Where the positions of a canvas lie in a store: planes by slot and channel, columns and rows by the region's corner.
use Rattle.std.proofs.Common.{◌≡◌, ℕ, ◌+◌, ◌-◌, ◌*◌, ◌/◌, ◌<◌, ◌≤◌, true, false, ◌&&◌, ltb, leb, ℤ, pos, ◌+ℤ◌, ◌-ℤ◌, nat_abs, sym, ap, ◌∙◌, ⊎_elim, arith}
use lib.Arith.{digits_lt}
use Rattle.std.proofs.lemmas.Nat.{div-mul-add}
use Rattle.std.proofs.lemmas.Int.{ints}
use Rattle.std.proofs.lemmas.Bool.{cases_Bool, and_parts, and_from, le-leb, lt-ltb, leb-true, ltb-true}
use Rattle.std.proofs.lemmas.Bool.Decides.{nat_tests}
use Rattle.region.specs.Positions.{along, column_of, row_of}
use Rattle.store.specs.Held.{Held, inside}
use Rattle.machine.specs.Checks.{Setup, channels_of, fits_store, planes_needed}
use Rattle.machine.specs.declared.calls.Size.{Size}
use Rattle.machine.specs.Machine.{on_canvas}
use Rattle.views.specs.View.{size_of, plane_of}

-- ---- columns and rows: how far a position lies from the corner

pub step_back : (from at : ℤ) (size : ℕ) → along from size at ≡ true → (from +ℤ pos (nat_abs (at -ℤ from))) ≡ at
step_back from at size e = grind (arith, ints)

step_below : (from at : ℤ) (size : ℕ) → along from size at ≡ true → nat_abs (at -ℤ from) < size
step_below from at size e = grind (arith, ints)

-- ---- planes: each channel has one, among its own slot's and no other's

module _ (n k c : ℕ) (small : c < n) where
  pub own_plane : (leb (k * n + 0) (k * n + c) && ltb (k * n + c) (k * n + n)) ≡ true
  own_plane = and_from _ _ (le-leb (k * n + 0) (k * n + c) (omega arith)) (lt-ltb (k * n + c) (k * n + n) (omega arith))

  pub own_channel : ((k * n + c) - (k * n + 0)) ≡ c
  own_channel = omega arith

  pub other_plane : (slot : ℕ) → (k ≡ slot → ⊥) → (leb (slot * n + 0) (k * n + c) && ltb (k * n + c) (slot * n + n)) ≡ false
  other_plane slot other =
      ⊎_elim
      (λ t.
      let ways = and_parts _ _ t in
      let low = leb-true (slot * n + 0) (k * n + c) ways.0 in
      let high = ltb-true (k * n + c) (slot * n + n) ways.1 in
      let d = (k * n + c) - slot * n in
      let same : slot * n + d ≡ k * n + c = omega arith in
      absurd (other (sym (div-mul-add k n c small) ∙ ap (λ m. m / n) (sym same) ∙ div-mul-add slot n d (omega arith))))
      (λ e. e)
      (cases_Bool _)

-- ---- every position of a canvas is a place of a store that fits

fits_parts :
    (size : Size) (s : Setup)
    → fits_store size s ≡ true
    → (s.region.width ≤ size.columns) × (s.region.height ≤ size.rows) × (planes_needed (channels_of s) ≤ size.planes)
fits_parts size s e = (grind (arith, nat_tests), grind (arith, nat_tests), grind (arith, nat_tests))

pub place_inside :
    (s : Setup) (h : Held) (k c : ℕ) (x y : ℤ)
    → fits_store (size_of h) s ≡ true
    → k < 5
    → on_canvas s c x y ≡ true
    → inside h (plane_of s k c) (column_of s.region x) (row_of s.region y) ≡ true
place_inside s h k c x y fits small on =
    let room = fits_parts (size_of h) s fits in
    let parts = and_parts _ _ on in
    let here = and_parts _ _ parts.1 in
    let column = step_below s.region.left x s.region.width here.0 in
    let row = step_below s.region.top y s.region.height here.1 in
    let plane = digits_lt small (ltb-true c (channels_of s) parts.0) in
    and_from _ _ (lt-ltb (plane_of s k c) h.planes (omega (arith, room.2)))
    (and_from _ _ (lt-ltb (column_of s.region x) h.columns (omega (arith, room.0))) (lt-ltb (row_of s.region y) h.rows (omega (arith, room.1))))
