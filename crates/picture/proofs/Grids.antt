-- Rows lie within the samples of a grid, and show what the grid means.
use Rattle.std.proofs.Common.{◌≡◌, ℕ, ◌+◌, ◌<◌, Bool, true, false, cond, List, map, length, get_or, take, drop, ℤ, ◌-ℤ◌, nat_abs, sym, refl, ap, ◌∙◌, arith}
use lib.Ieee.{Float}
use Rattle.std.proofs.lemmas.List.{drop-map, get_or-drop, get_or-take, take-map}
use Rattle.std.proofs.lemmas.Int.{ints}
use Rattle.std.proofs.lemmas.Bool.{cond-true}
use Rattle.sample.specs.Samples.{zero}
use Rattle.region.specs.Positions.{along, column_of, row_of}
use Rattle.region.specs.declared.Region.{Region}
use Rattle.picture.specs.Meaning.{value_at}
use Rattle.picture.specs.Shapes.{row_start, row_from, grid_of}
use Rattle.picture.specs.Steps.{crosses, row_at}
use Rattle.picture.proofs.Values.{value_by_rows}

part_at : {X : Type 0} (f : X → Float) (xs : List X) (start count k : ℕ) → k < count → get_or (map f (take count (drop start xs))) k zero ≡ get_or (map f xs) (start + k) zero
part_at f xs start count k h =
    simp (← take-map, ← drop-map) (get_or-take count (drop start (map f xs)) k zero h ∙ get_or-drop start (map f xs) k zero)

column_below : (from at : ℤ) (size : ℕ) → along from size at ≡ true → nat_abs (at -ℤ from) < size
column_below from at size h = grind (arith, ints)

cond_where : (b : Bool) (v w z : Float) → (b ≡ true → v ≡ w) → cond b v z ≡ cond b w z
cond_where true v w z e = e refl
cond_where false v w z e = refl

-- where a channel has a row, the grid shows what the row holds
pub grid_row : {X : Type 0} (value : X → ℕ → Float) (channels : ℕ) (r : Region) (samples row : List X) (full channel : ℕ) (left x y : ℤ) → crosses channels r channel y ≡ true → length row ≡ r.width → row ≡ row_from r channel (row_of r y) samples → left ≡ r.left → row_at (λ s. value s full) left row x ≡ value_at (grid_of value channels r samples full) channel x y
grid_row value channels r samples row full channel left x y h long e begins =
    let shown : ℤ → ℕ → Float = λ from width. cond (along from width x) (get_or (map (λ s. value s full) row) (nat_abs (x -ℤ from)) zero) zero in
    ap (λ from. shown from (length row)) begins
    ∙ ap (shown r.left) long
    ∙ cond_where (along r.left r.width x) _ _ zero
    (λ t.
    ap (λ l. get_or (map (λ s. value s full) l) (column_of r x) zero) e
    ∙ part_at (λ s. value s full) samples (row_start r channel (row_of r y)) r.width (column_of r x) (column_below r.left x r.width t))
    ∙ sym (value_by_rows (grid_of value channels r samples full) channel x y ∙ cond-true (crosses channels r channel y) _ _ h)
