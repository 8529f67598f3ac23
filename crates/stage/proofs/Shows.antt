-- What a slot of a store shows is what the definition shows.
use Rattle.std.proofs.Common.{◌≡◌, ℕ, ◌+◌, ◌*◌, ◌<◌, ◌≤◌, true, false, cond, ltb, get_or, ℤ, Some, None, sym, ap, ◌∙◌}
use lib.Ieee.{Float}
use Rattle.std.proofs.lemmas.Bool.{and_from, and_left, and_right, cond-true, cond-false, lt-ltb, le-ltb}
use Rattle.sample.specs.Samples.{zero}
use Rattle.region.specs.Positions.{has, column_of, row_of}
use Rattle.store.specs.Held.{Held, seen}
use Rattle.machine.specs.declared.calls.Shown.TheVariants.{Outside, Empty, Sample}
use Rattle.machine.specs.Checks.{Setup, channels_of}
use Rattle.machine.specs.Machine.{show, shown_of, on_canvas}
use Rattle.views.specs.View.{Book, canvas_at, work_at}

module _ (s : Setup) (b : Book) (h : Held) (k c : ℕ) (x y : ℤ) where
  pub no_position : has s.region x y ≡ false → Outside ≡ show s (work_at s b h) k c x y
  no_position off = sym (cond-false _ _ _ (and_right (ltb k 4) _ (and_right (ltb c (channels_of s)) _ off)))

  pub no_channel : channels_of s ≤ c → Outside ≡ show s (work_at s b h) k c x y
  no_channel past = sym (cond-false _ _ _ (and_right (ltb k 4) _ (and_left (ltb c (channels_of s)) _ (le-ltb c (channels_of s) past))))

  module _ (slot : k < 4) (channel : c < channels_of s) (on : has s.region x y ≡ true) where
    there : on_canvas s c x y ≡ true
    there = and_from (ltb c (channels_of s)) _ (lt-ltb c (channels_of s) channel) on

    shown_slot : show s (work_at s b h) k c x y ≡ shown_of ((work_at s b h).slots k) c x y
    shown_slot = cond-true _ _ _ (and_from (ltb k 4) _ (lt-ltb k 4 slot) there)

    pub shows_empty : get_or b.filled k false ≡ false → Empty ≡ show s (work_at s b h) k c x y
    shows_empty empty = sym (shown_slot ∙ ap (λ f. shown_of (cond f (Some (canvas_at s h k)) None) c x y) empty)

    pub shows_sample :
        (value : Float)
        → get_or b.filled k false ≡ true
        → value ≡ seen h (k * channels_of s + c) (column_of s.region x) (row_of s.region y)
        → Sample value ≡ show s (work_at s b h) k c x y
    shows_sample value full e =
        ap Sample (e ∙ sym (cond-true (on_canvas s c x y) _ zero there)) ∙ sym (shown_slot ∙ ap (λ f. shown_of (cond f (Some (canvas_at s h k)) None) c x y) full)
