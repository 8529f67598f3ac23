-- One part of a walk after another: what is made in the second part is made of samples that the first has not touched.
use Rattle.std.proofs.Common.{◌≡◌, ℕ, Bool, true, false, cond, ◌&&◌, ◌||◌, ◌+◌, ◌≤◌, refl, ◌∙◌, arith}
use Rattle.std.specs.Prelude.{Float}
use Rattle.std.proofs.lemmas.Bool.{and_parts, and_right, cond_both, cond-false}
use Rattle.std.proofs.lemmas.Bool.Decides.{nat_tests}
use Rattle.store.specs.Held.{Held, inside, seen, Changed}
use Rattle.store.proofs.Changes.{changed_then, changed_like}
use Rattle.walk.specs.Rectangles.{in_line, Local}

pub both : (t f s : Bool) → ((t && f) || (t && s)) ≡ (t && (f || s))
both true f s = refl
both false f s = refl

module _ {a b e : Held} (first second : ℕ → ℕ → Bool) (apart : (c r : ℕ) → second c r ≡ true → first c r ≡ false) where
  -- two painters, one after the other
  pub walked_then :
      (touches touches' : ℕ → Bool) (value value' : Held → ℕ → ℕ → ℕ → Float)
      → Local value'
      → Changed a b (λ p c r. touches p && first c r) (value a)
      → Changed b e (λ p c r. touches' p && second c r) (value' b)
      → Changed a e (λ p c r. (touches p && first c r) || (touches' p && second c r)) (λ p c r. cond (touches' p && second c r) (value' a p c r) (value a p c r))
  walked_then touches touches' value value' local one next =
      changed_like (changed_then one next) (λ p c r. (touches p && first c r) || (touches' p && second c r)) (λ p c r. cond (touches' p && second c r) (value' a p c r) (value a p c r))
      (λ p c r _. refl)
      (λ p c r _ _. later p c r (touches' p && second c r) refl)
    where
      untouched : (q c r : ℕ) → first c r ≡ false → seen b q c r ≡ seen a q c r
      untouched q c r off = one.places q c r ∙ cond-false (inside a q c r && (touches q && first c r)) _ _ (and_right (inside a q c r) _ (and_right (touches q) _ off))

      later : (p c r : ℕ) (t : Bool) → (touches' p && second c r) ≡ t → cond t (value' b p c r) (value a p c r) ≡ cond t (value' a p c r) (value a p c r)
      later p c r true h = local b a p c r one.columns one.rows one.planes (λ q. untouched q c r (apart c r (and_parts (touches' p) _ h).1))
      later p c r false h = refl

  -- one painter, one part after the other
  pub walked_on :
      (whole : ℕ → ℕ → Bool) (touches : ℕ → Bool) (value : Held → ℕ → ℕ → ℕ → Float)
      → Local value
      → ((c r : ℕ) → (first c r || second c r) ≡ whole c r)
      → Changed a b (λ p c r. touches p && first c r) (value a)
      → Changed b e (λ p c r. touches p && second c r) (value b)
      → Changed a e (λ p c r. touches p && whole c r) (value a)
  walked_on whole touches value local joined one next =
      changed_like (walked_then touches touches value value local one next) (λ p c r. touches p && whole c r) (value a)
      (λ p c r _. rw (both (touches p) (first c r) (second c r), joined c r))
      (λ p c r _ _. cond_both (touches p && second c r) (value a p c r) (value a p c r) (λ v. v ≡ value a p c r) (λ _. refl) (λ _. refl))

-- a run more of a row
pub row_on :
    {a b e : Held} (touches : ℕ → Bool) (value : Held → ℕ → ℕ → ℕ → Float) (first middle next count last row : ℕ)
    → Local value
    → first ≤ middle
    → middle ≡ next
    → next + count ≡ last
    → Changed a b (λ p c r. touches p && in_line first middle row c r) (value a)
    → Changed b e (λ p c r. touches p && in_line next (next + count) row c r) (value b)
    → Changed a e (λ p c r. touches p && in_line first last row c r) (value a)
row_on touches value first middle next count last row local low met ends one next-one =
    walked_on (in_line first middle row) (in_line next (next + count) row) (λ c r e. grind (arith, nat_tests)) (in_line first last row) touches value local (λ c r. grind (arith, nat_tests)) one next-one
