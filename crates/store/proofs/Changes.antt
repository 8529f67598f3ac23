-- Changes of a store: one after another, one said in other words, and a run that grows.
use Rattle.std.proofs.Common.{◌≡◌, ℕ, Bool, true, false, cond, ◌&&◌, ◌||◌, sym, refl, ap, ◌∙◌, arith}
use lib.Ieee.{Float}
use Rattle.store.specs.Held.{Held, inside, seen, run_inside, Changed}

module _ {a b : Held} {when : ℕ → ℕ → ℕ → Bool} {value : ℕ → ℕ → ℕ → Float} (change : Changed a b when value) where
  -- a change keeps what is inside
  pub inside_kept : (p c r : ℕ) → inside b p c r ≡ inside a p c r
  inside_kept p c r = rw (change.planes, change.columns, change.rows)

  pub run_kept : (p c r n : ℕ) → run_inside b p c r n ≡ run_inside a p c r n
  run_kept p c r n = rw (change.planes, change.rows, change.columns)

  -- what is held at a place inside
  pub at_after : (p c r : ℕ) → inside a p c r ≡ true → b.at p c r ≡ cond (when p c r) (value p c r) (a.at p c r)
  at_after p c r i = simp (inside_kept p c r, i) at (change.places p c r)

  -- one change after another is one change, in which the later wins
  pub changed_then : {d : Held} {when' : ℕ → ℕ → ℕ → Bool} {value' : ℕ → ℕ → ℕ → Float} → Changed b d when' value' → Changed a d (λ p c r. when p c r || when' p c r) (λ p c r. cond (when' p c r) (value' p c r) (value p c r))
  changed_then {d} {when'} {value'} next = record {
    columns = next.columns ∙ change.columns;
    rows = next.rows ∙ change.rows;
    planes = next.planes ∙ change.planes;
    rest = next.rest ∙ change.rest;
    lent = next.lent ∙ change.lent;
    places = λ p c r. rw (next.places p c r, change.places p c r, inside_kept p c r) (later (inside a p c r) (when p c r) (when' p c r) (value p c r) (value' p c r) (seen a p c r));
  }
    where
      later : (i w w' : Bool) (v v' s : Float) → cond (i && w') v' (cond (i && w) v s) ≡ cond (i && (w || w')) (cond w' v' v) s
      later false w w' v v' s = refl
      later true w w' v v' s = grind arith

  -- a change said in other words, equal at every place inside
  pub changed_like : (when' : ℕ → ℕ → ℕ → Bool) (value' : ℕ → ℕ → ℕ → Float) → ((p c r : ℕ) → inside a p c r ≡ true → when p c r ≡ when' p c r) → ((p c r : ℕ) → inside a p c r ≡ true → when' p c r ≡ true → value p c r ≡ value' p c r) → Changed a b when' value'
  changed_like when' value' same-when same-value = record {
    columns = change.columns;
    rows = change.rows;
    planes = change.planes;
    rest = change.rest;
    lent = change.lent;
    places = λ p c r. rw (change.places p c r) (like (inside a p c r) (when p c r) (when' p c r) (value p c r) (value' p c r) (seen a p c r) (same-when p c r) (same-value p c r));
  }
    where
      like : (i w w' : Bool) (v v' s : Float) → (i ≡ true → w ≡ w') → (i ≡ true → w' ≡ true → v ≡ v') → cond (i && w) v s ≡ cond (i && w') v' s
      like false w w' v v' s hw hv = refl
      like true w true v v' s hw hv = rw (hw refl) (hv refl refl)
      like true w false v v' s hw hv = rw (hw refl)

-- a change that names more places, where it leaves what was there
pub changed_wider :
    {a b : Held} {when : ℕ → ℕ → ℕ → Bool} {value : ℕ → ℕ → ℕ → Float}
    → Changed a b when value
    → (when' : ℕ → ℕ → ℕ → Bool) (value' : ℕ → ℕ → ℕ → Float)
    → ((p c r : ℕ) → inside a p c r ≡ true → when p c r ≡ true → (when' p c r ≡ true) × (value p c r ≡ value' p c r))
    → ((p c r : ℕ) → inside a p c r ≡ true → when p c r ≡ false → when' p c r ≡ true → value' p c r ≡ seen a p c r)
    → Changed a b when' value'
changed_wider {a} {b} {when} {value} change when' value' named more = record {
  columns = change.columns;
  rows = change.rows;
  planes = change.planes;
  rest = change.rest;
  lent = change.lent;
  places = λ p c r. rw (change.places p c r) (wider (inside a p c r) (when p c r) (when' p c r) (value p c r) (value' p c r) (seen a p c r) (named p c r) (more p c r));
}
  where
    wider : (i w w' : Bool) (v v' s : Float) → (i ≡ true → w ≡ true → (w' ≡ true) × (v ≡ v')) → (i ≡ true → w ≡ false → w' ≡ true → v' ≡ s) → cond (i && w) v s ≡ cond (i && w') v' s
    wider false w w' v v' s n m = refl
    wider true true w' v v' s n m = let e = n refl refl in e.1 ∙ ap (λ b. cond b v' s) (sym e.0)
    wider true false true v v' s n m = sym (m refl refl refl)
    wider true false false v v' s n m = refl
