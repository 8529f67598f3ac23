-- A room with a run of each channel: writing the run of one channel leaves those of the channels before it.
use Rattle.std.proofs.Common.{◌≡◌, ℕ, ◌+◌, ◌<◌, List, length, get_or, set, ◌++◌, ap, ◌∙◌, subst, sym, ⊎_elim, arith}
use Rattle.std.specs.Prelude.{Float, []}
use Rattle.std.specs.Float.{nan}
use Rattle.std.proofs.lemmas.List.{get_or_append_left, get_or-set_same, get_or-set_other}
use Rattle.std.proofs.lemmas.Bool.{cases_eq}
use Rattle.drawing.specs.Runs.{room_at}

module _ (f : ℕ → ℕ → Float) (Wanted : ℕ → Type 0) (room : List (List Float)) (n count : ℕ) (below : (ch k : ℕ) → ch < n → k < count → Wanted ch → room_at room ch k ≡ f ch k) where
  pub room_more :
      (part rest : List Float)
      → n < length room
      → length part ≡ count
      → ((k : ℕ) → k < count → get_or part k nan ≡ f n k)
      → (ch k : ℕ)
      → ch < n + 1
      → k < count
      → Wanted ch
      → room_at (set room n (part ++ rest)) ch k ≡ f ch k
  room_more part rest fits long here ch k c< k< wanted =
      ⊎_elim
      (λ (e : ch ≡ n).
      ap (λ m. room_at (set room n (part ++ rest)) m k) e
      ∙ ap (λ run. get_or run k nan) (get_or-set_same room n (part ++ rest) [] fits)
      ∙ get_or_append_left part rest nan k (omega arith)
      ∙ here k k<
      ∙ ap (λ m. f m k) (sym e))
      (λ ne. ap (λ run. get_or run k nan) (get_or-set_other room n ch (part ++ rest) [] ne) ∙ below ch k (omega arith) k< wanted)
      (cases_eq ch n)

  -- a channel that is not wanted asks for nothing
  pub room_same : (Wanted n → ⊥) → (ch k : ℕ) → ch < n + 1 → k < count → Wanted ch → room_at room ch k ≡ f ch k
  room_same none ch k c< k< wanted =
      ⊎_elim (λ (e : ch ≡ n). absurd (none (subst Wanted e wanted))) (λ ne. below ch k (omega arith) k< wanted) (cases_eq ch n)
