-- A drawing by a plan touches the planes of its slot, and is a painting of that slot.
use Rattle.std.proofs.Common.{◌≡◌, ℕ, ◌+◌, ◌-◌, ◌*◌, ◌<◌, ◌≤◌, Bool, true, false, ◌&&◌, ltb, leb, ℤ, is_some, Some, None, sym, refl, ap, ◌∙◌, ⊎_elim, arith}
use lib.Ieee.{Float}
use Rattle.std.proofs.lemmas.Bool.{cases_lt, cases_Bool, and_parts, and_from, and_left, and_right, both_ways, cond-true, cond-false, leb-true, ltb-true, lt-ltb, le-ltb}
use Rattle.std.proofs.lemmas.Bool.Decides.{nat_tests}
use Rattle.picture.specs.Meaning.{Meaning}
use Rattle.store.specs.Held.{Held, inside, seen, Changed}
use Rattle.store.proofs.Changes.{changed_wider}
use Rattle.machine.specs.Calls.{Canvas}
use Rattle.machine.specs.Checks.{Setup, channels_of}
use Rattle.views.specs.View.{plane_of}
use Rattle.views.specs.Step.{Painting, paints, paint_of, Painted}
use Rattle.drawing.specs.declared.layers.Layer.{Layer}
use Rattle.drawing.specs.declared.strokes.Drawing.{Drawing}
use Rattle.drawing.specs.Layers.{stroke_of, stroke_or, touches, drawn_at}
use Rattle.canvas.specs.Plans.{Plan, Planned}
use Rattle.canvas.proofs.Samples.{across, down}

-- the planes of a slot, and the channel that a plane of it holds
abbrev pub own : Setup → (slot plane : ℕ) → Bool
own s k p = leb (plane_of s k 0) p && ltb p (plane_of s k (channels_of s))

abbrev pub channel_at : Setup → (slot plane : ℕ) → ℕ
channel_at s k p = p - plane_of s k 0

module _ (s : Setup) (k p : ℕ) (mine : own s k p ≡ true) where
  pub channel_below : channel_at s k p < channels_of s
  channel_below =
      let parts = and_parts (leb (plane_of s k 0) p) (ltb p (plane_of s k (channels_of s))) mine in
      let low = leb-true (plane_of s k 0) p parts.0 in
      let high = ltb-true p (plane_of s k (channels_of s)) parts.1 in
      omega arith

  pub plane_back : k * channels_of s + channel_at s k p ≡ p
  plane_back =
      let low = leb-true (plane_of s k 0) p (and_parts (leb (plane_of s k 0) p) (ltb p (plane_of s k (channels_of s))) mine).0 in
      omega arith

same_planes : (first n p : ℕ) → n ≤ 11 → p - (first + 0) < n → (leb (first + 0) p && ltb (p - (first + 0)) 11) ≡ (leb (first + 0) p && ltb p (first + n))
same_planes first n p few small = grind (arith, nat_tests)

no_plane : (first n p : ℕ) → n ≤ p - (first + 0) → (leb (first + 0) p && ltb p (first + n)) ≡ false
no_plane first n p past = grind (arith, nat_tests)

module _ {s : Setup} {k : ℕ} {plan : Plan} {new : Layer} {d : Drawing} (by : Planned s k plan new d) where
  pub touch_plan : (p : ℕ) → touches d p ≡ (own s k p && is_some (plan (channel_at s k p)))
  touch_plan p =
      ap (λ f. (leb f p && ltb (p - f) 11) && is_some (stroke_of d (p - f))) (by.first ∙ start)
      ∙ ap (λ o. (leb (plane_of s k 0) p && ltb ch 11) && is_some o) (by.strokes ch)
      ∙ ⊎_elim
      (λ (small : ch < channels_of s).
      ap (λ o. (leb (plane_of s k 0) p && ltb ch 11) && is_some o) (cond-true (ltb ch (channels_of s)) (plan ch) None (lt-ltb ch (channels_of s) small))
      ∙ ap (λ b. b && is_some (plan ch)) (inner small))
      (λ (past : channels_of s ≤ ch).
      ap (λ o. (leb (plane_of s k 0) p && ltb ch 11) && is_some o) (cond-false (ltb ch (channels_of s)) (plan ch) None (le-ltb ch (channels_of s) past))
      ∙ and_right (leb (plane_of s k 0) p && ltb ch 11) _ refl
      ∙ sym (and_left _ _ (outer past)))
      (cases_lt ch (channels_of s))
    where
      ch : ℕ
      ch = channel_at s k p

      start : k * channels_of s ≡ plane_of s k 0
      start = omega arith

      inner : ch < channels_of s → (leb (plane_of s k 0) p && ltb ch 11) ≡ own s k p
      inner small = same_planes (k * channels_of s) (channels_of s) p by.few small

      outer : channels_of s ≤ ch → own s k p ≡ false
      outer past = no_plane (k * channels_of s) (channels_of s) p past

  pub drawn_plan :
      (m : Meaning) (h : Held) (p c r : ℕ)
      → own s k p ≡ true
      → drawn_at d m h p c r ≡ stroke_or (plan (channel_at s k p)) new s.colors m h (channel_at s k p) c r
  drawn_plan m h p c r mine =
      let ch = channel_at s k p in
      let start : k * channels_of s ≡ plane_of s k 0 = omega arith in
      let at : p - d.first ≡ ch = ap (λ f. p - f) (by.first ∙ start) in
      let stroke : stroke_of d (p - d.first) ≡ plan ch =
      ap (stroke_of d) at ∙ by.strokes ch ∙ cond-true (ltb ch (channels_of s)) (plan ch) None (lt-ltb ch (channels_of s) (channel_below s k p mine))
      in λ i. stroke_or (stroke i) (by.newer i) (by.colors i) m h (at i) c r

-- a change of the planes of a slot that says what the canvas has there is a painting
module _ (s : Setup) (k : ℕ) (where_to : ℕ → ℤ → ℤ → Bool) (canvas : Canvas) {before after : Held} {when : ℕ → ℕ → ℕ → Bool} {value : ℕ → ℕ → ℕ → Float} where
  pub painted_by :
      Changed before after when value
      → ((p c r : ℕ) → own s k p ≡ false → when p c r ≡ false)
      → ((p c r : ℕ)
      → own s k p ≡ true
      → when p c r ≡ true
      → (where_to (channel_at s k p) (across s c) (down s r) ≡ true) × (value p c r ≡ canvas (channel_at s k p) (across s c) (down s r)))
      → ((p c r : ℕ)
      → inside before p c r ≡ true
      → own s k p ≡ true
      → when p c r ≡ false
      → where_to (channel_at s k p) (across s c) (down s r) ≡ true
      → canvas (channel_at s k p) (across s c) (down s r) ≡ seen before p c r)
      → Painted s (record { slot = k; where_to = where_to; canvas = canvas }) before after
  painted_by change off on kept =
      changed_wider change (paints s (Some a)) (paint_of s (Some a))
      (λ p c r _ w. let mine = mine_if p c r w in let drawn = on p c r mine w in (and_from (own s k p) _ mine drawn.0, drawn.1))
      (λ p c r i w painted. let parts = and_parts (own s k p) _ painted in kept p c r i parts.0 w parts.1)
    where
      a : Painting
      a = record { slot = k; where_to = where_to; canvas = canvas }

      mine_if : (p c r : ℕ) → when p c r ≡ true → own s k p ≡ true
      mine_if p c r w = ⊎_elim (λ t. t) (λ f. absurd (both_ways (when p c r) (off p c r f) w)) (cases_Bool (own s k p))

-- a drawing by a plan, with the new layer said in other words
pub planned_as : {s : Setup} {k : ℕ} {plan : Plan} {new new' : Layer} {d : Drawing} → Planned s k plan new d → new ≡ new' → Planned s k plan new' d
planned_as by e = record { first = by.first; colors = by.colors; newer = by.newer ∙ e; strokes = by.strokes; few = by.few }
