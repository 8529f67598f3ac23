-- A rectangle from the corner on without a part of it is four rectangles: above, left, right and below.
use Rattle.std.proofs.Common.{◌≡◌, ℕ, min, Bool, true, false, not, ◌&&◌, ◌||◌, refl, arith}
use Rattle.std.specs.Prelude.{Float}
use Rattle.std.proofs.lemmas.Bool.Decides.{nat_tests}
use Rattle.store.specs.Held.{Held, Changed}
use Rattle.walk.specs.declared.parts.Area.{Area}
use Rattle.walk.specs.Rectangles.{in_area, Local}
use Rattle.walk.proofs.Walks.{walked_on}

abbrev pub area : (left right top bottom : ℕ) → Area
area left right top bottom = record { left = left; right = right; top = top; bottom = bottom }

module _ (w h l r t b end upper lower : ℕ) (e : end ≡ min (min l r) w) (u : upper ≡ min (min t b) h) (o : lower ≡ min b h) where
  left_apart : (x y : ℕ) → in_area (area 0 end upper lower) x y ≡ true → in_area (area 0 w 0 upper) x y ≡ false
  left_apart x y i = grind (arith, nat_tests)

  right_apart : (x y : ℕ) → in_area (area r w upper lower) x y ≡ true → (in_area (area 0 w 0 upper) x y || in_area (area 0 end upper lower) x y) ≡ false
  right_apart x y i = grind (arith, nat_tests)

  below_apart : (x y : ℕ) → in_area (area 0 w lower h) x y ≡ true → ((in_area (area 0 w 0 upper) x y || in_area (area 0 end upper lower) x y) || in_area (area r w upper lower) x y) ≡ false
  below_apart x y i = grind (arith, nat_tests)

  ring : (x y : ℕ) → (((in_area (area 0 w 0 upper) x y || in_area (area 0 end upper lower) x y) || in_area (area r w upper lower) x y) || in_area (area 0 w lower h) x y) ≡ (in_area (area 0 w 0 h) x y && not (in_area (area l r t b) x y))
  ring x y = grind (arith, nat_tests)

  pub ringed :
      {one two three four five : Held} (touches : ℕ → Bool) (value : Held → ℕ → ℕ → ℕ → Float)
      → Local value
      → Changed one two (λ p x y. touches p && in_area (area 0 w 0 upper) x y) (value one)
      → Changed two three (λ p x y. touches p && in_area (area 0 end upper lower) x y) (value two)
      → Changed three four (λ p x y. touches p && in_area (area r w upper lower) x y) (value three)
      → Changed four five (λ p x y. touches p && in_area (area 0 w lower h) x y) (value four)
      → Changed one five (λ p x y. touches p && (in_area (area 0 w 0 h) x y && not (in_area (area l r t b) x y))) (value one)
  ringed touches value local above left right below =
      walked_on _ _ below_apart _ touches value local ring
      (walked_on _ _ right_apart _ touches value local (λ x y. refl) (walked_on _ _ left_apart _ touches value local (λ x y. refl) above left) right) below
