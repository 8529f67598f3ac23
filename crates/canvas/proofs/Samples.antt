-- What the layers of a store show at a column and a row is what the definition's canvases hold at that position.
use Rattle.std.proofs.Common.{◌≡◌, ℕ, ◌+◌, ◌*◌, Bool, true, false, cond, ◌&&◌, ltb, List, get_or, ℤ, pos, ◌+ℤ◌, ◌-ℤ◌, nat_abs, Some, None, sym, refl, ap, ◌∙◌, arith}
use lib.Ieee.{Float}
use Rattle.std.proofs.lemmas.Int.{ints}
use Rattle.sample.specs.Samples.{zero}
use Rattle.region.specs.declared.Region.{Region}
use Rattle.region.specs.Positions.{has}
use Rattle.picture.specs.Meaning.{Meaning}
use Rattle.store.specs.Held.{Held, seen}
use Rattle.machine.specs.declared.calls.Header.{Header}
use Rattle.machine.specs.Checks.{Setup, channels_of}
use Rattle.machine.specs.Calls.{Canvas}
use Rattle.machine.specs.Machine.{canvas_of, covered, drawn, on_canvas}
use Rattle.views.specs.View.{canvas_at, frame_slot, slots_in}
use Rattle.drawing.specs.declared.layers.Layer.{Layer}
use Rattle.drawing.specs.declared.layers.Layer.TheVariants.{Blank}
use Rattle.drawing.specs.Layers.{layer_at}
use Rattle.canvas.specs.Plans.{slot_layer, source_layer}

-- the position in a column and a row
abbrev pub across : Setup → ℕ → ℤ
across s c = s.region.left +ℤ pos c

abbrev pub down : Setup → ℕ → ℤ
down s r = s.region.top +ℤ pos r

steps_back : (from : ℤ) (n : ℕ) → nat_abs ((from +ℤ pos n) -ℤ from) ≡ n
steps_back from n = grind (arith, ints)

under : (a b : Bool) (v : Float) → b ≡ true → cond (a && b) v zero ≡ cond a v zero
under true b v e = ap (λ t. cond t v zero) e
under false b v e = refl

twice : (b : Bool) (v : Float) → cond b (cond b v zero) zero ≡ cond b v zero
twice true v = refl
twice false v = refl

by_flag :
    (b : Bool) (l : Layer) (canvas : Canvas) (m : Meaning) (h : Held) (ch c r : ℕ) (x y : ℤ)
    → layer_at l m h ch c r ≡ canvas ch x y
    → layer_at (cond b l Blank) m h ch c r ≡ canvas_of (cond b (Some canvas) None) ch x y
by_flag true l canvas m h ch c r x y e = e
by_flag false l canvas m h ch c r x y e = refl

module _ (s : Setup) (h : Held) (m : Meaning) (c r : ℕ) (on : has s.region (across s c) (down s r) ≡ true) where
  -- a slot's canvas
  pub slot-shows : (k ch : ℕ) → layer_at (slot_layer s k) m h ch c r ≡ canvas_at s h k ch (across s c) (down s r)
  slot-shows k ch =
      let column = sym (steps_back s.region.left c) in
      let row = sym (steps_back s.region.top r) in
      (λ i. cond (ltb ch (channels_of s)) (seen h (k * channels_of s + ch) (column i) (row i)) zero)
      ∙ sym (under (ltb ch (channels_of s)) (has s.region (across s c) (down s r)) _ on)

  -- a slot as it is read
  pub source_shows : (filled : List Bool) (k ch : ℕ) → layer_at (source_layer s filled k) m h ch c r ≡ canvas_of (slots_in s filled h k) ch (across s c) (down s r)
  source_shows filled k ch = by_flag (get_or filled k false) (slot_layer s k) (canvas_at s h k) m h ch c r (across s c) (down s r) (slot-shows k ch)

  -- the open frame, where it is covered
  pub frame-shows :
      (hd : Header) (region : Region)
      → covered hd region (across s c -ℤ hd.left) (down s r -ℤ hd.top) ≡ true
      → (ch : ℕ)
      → layer_at (slot_layer s frame_slot) m h ch c r
      ≡ cond (drawn s hd region ch (across s c) (down s r)) (canvas_at s h frame_slot ch (across s c) (down s r)) zero
  frame-shows hd region cover ch =
      slot-shows frame_slot ch
      ∙ sym (twice (on_canvas s ch (across s c) (down s r)) _)
      ∙ sym (under (on_canvas s ch (across s c) (down s r)) (covered hd region (across s c -ℤ hd.left) (down s r -ℤ hd.top)) _ cover)
