-- Runs that are saved channel by channel change the planes of those channels, in the columns of the run.
use Rattle.std.proofs.Common.{◌≡◌, ℕ, ◌+◌, ◌-◌, ◌<◌, ◌≤◌, Bool, true, false, ◌&&◌, ◌||◌, eqb, List, length, get_or, is_some, sym, refl, ap, ◌∙◌, arith}
use Rattle.std.specs.Prelude.{Float}
use Rattle.std.specs.Float.{nan}
use Rattle.std.proofs.lemmas.Bool.{cond_both}
use Rattle.std.proofs.lemmas.Bool.Decides.{nat_tests}
use Rattle.store.specs.Held.{Held, inside, in_run, run_inside, Changed}
use Rattle.store.proofs.Changes.{changed_then, changed_like, run_kept}
use Rattle.store.proofs.Inside.{inside_parts}
use Rattle.drawing.specs.declared.strokes.Drawing.{Drawing}
use Rattle.picture.specs.Meaning.{Meaning}
use Rattle.drawing.specs.Layers.{stroke_of, touches, drawn_at}
use Rattle.walk.specs.Rectangles.{in_line}
use Rattle.drawing.specs.Runs.{room_at, MadeBelow, touches_below}

-- a channel more: its plane counts if it has a stroke
module _ (d : Drawing) (n : ℕ) where
  pub touch_more : is_some (stroke_of d n) ≡ true → (p : ℕ) → touches_below (n + 1) d p ≡ (touches_below n d p || eqb p (d.first + n))
  touch_more some p = grind (arith, nat_tests)

  pub touch_same : is_some (stroke_of d n) ≡ false → (p : ℕ) → touches_below n d p ≡ touches_below (n + 1) d p
  touch_same none p = grind (arith, nat_tests)

-- what a save writes where all is inside that matters
joined : (t e line said : Bool) → ((e && line) ≡ true → said ≡ true) → ((t && line) || (said && (e && line))) ≡ ((t || e) && line)
joined t e line said h = grind (arith, nat_tests)

-- what the room holds for a place
abbrev pub saved : Drawing → ℕ → List (List Float) → ℕ → ℕ → ℕ → Float
saved d column room p c r = room_at room (p - d.first) (c - column)

module _ {a b e : Held} (d : Drawing) (n column row count : ℕ) (room : List (List Float)) (part : List Float) (said : Bool) where
  pub saved_more :
      is_some (stroke_of d n) ≡ true
      → column + count ≤ a.columns
      → length part ≡ count
      → ((k : ℕ) → k < count → get_or part k nan ≡ room_at room n k)
      → Changed a b (λ p c r. touches_below n d p && in_line column (column + count) row c r) (saved d column room)
      → said ≡ run_inside b (d.first + n) column row (length part)
      → Changed b e (λ p c r. said && in_run (d.first + n) column row (length part) p c r) (λ _ c _. get_or part (c - column) nan)
      → Changed a e (λ p c r. touches_below (n + 1) d p && in_line column (column + count) row c r) (saved d column room)
  saved_more some fits long reads one told next =
      changed_like (changed_then one next) (λ p c r. touches_below (n + 1) d p && in_line column (column + count) row c r) (saved d column room)
      (λ p c r i.
      ap (λ m. (touches_below n d p && in_line column (column + count) row c r) || (said && in_run (d.first + n) column row m p c r)) long
      ∙ joined (touches_below n d p) (eqb p (d.first + n)) (in_line column (column + count) row c r) said (λ h. told_here p c r i h)
      ∙ ap (λ t. t && in_line column (column + count) row c r) (sym (touch_more d n some p)))
      (λ p c r i _.
      cond_both (said && in_run (d.first + n) column row (length part) p c r) (get_or part (c - column) nan) (saved d column room p c r) (λ v. v ≡ saved d column room p c r)
      (λ h.
      let low : column ≤ c = grind (arith, nat_tests) in
      let high : c < column + length part = grind (arith, nat_tests) in
      let at : p - d.first ≡ n = grind (arith, nat_tests) in
      reads (c - column) (omega arith) ∙ ap (λ ch. room_at room ch (c - column)) (sym at))
      (λ _. refl))
    where
      told_here : (p c r : ℕ) → inside a p c r ≡ true → (eqb p (d.first + n) && in_line column (column + count) row c r) ≡ true → said ≡ true
      told_here p c r i h =
          let parts = inside_parts a p c r i in
          told ∙ run_kept one (d.first + n) column row (length part) ∙ grind (arith, nat_tests)

-- a place of a run that a drawing touches
touched : (d : Drawing) (column row count p c r : ℕ) → (touches d p && in_line column (column + count) row c r) ≡ true → (column ≤ c) × (c < column + count) × (r ≡ row) × (p - d.first < 11) × (is_some (stroke_of d (p - d.first)) ≡ true)
touched d column row count p c r h = (grind (arith, nat_tests), grind (arith, nat_tests), grind (arith, nat_tests), grind (arith, nat_tests), grind (arith, nat_tests))

-- runs that were made of the store as it stood, and then saved, are what the drawing makes
pub all_saved :
    {a b : Held} (d : Drawing) (m : Meaning) (column row count : ℕ) (room : List (List Float))
    → MadeBelow 11 d m a column row count room
    → Changed a b (λ p c r. touches_below 11 d p && in_line column (column + count) row c r) (saved d column room)
    → Changed a b (λ p c r. touches d p && in_line column (column + count) row c r) (drawn_at d m a)
all_saved {a} {b} d m column row count room made change =
    changed_like change (λ p c r. touches d p && in_line column (column + count) row c r) (drawn_at d m a)
    (λ p c r _. refl)
    (λ p c r _ h.
    let spot = touched d column row count p c r h in
    let at : column + (c - column) ≡ c = omega arith in
    made (p - d.first) (c - column) spot.3 (omega arith) spot.4 ∙ (λ i. drawn_at d m a p (at i) (sym spot.2 i)))
