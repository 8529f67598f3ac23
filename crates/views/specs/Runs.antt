-- Runs of stages: a start that was taken, and calls, each going on from the one before, refused or not. The laws speak of every run, over any store,
-- whatever it holds.
use Rattle.std.specs.Prelude.{◌≡◌, ℕ, true, List, [], ◌∷◌, ◌++◌, map, ℤ, ◌+ℤ◌, None}
use Rattle.region.specs.declared.Region.{Region}
use Rattle.region.specs.Positions.{has, Holds}
use Rattle.machine.specs.Calls.{Call, Answer}
use Rattle.machine.specs.Machine.{begun, run, answers, show, setup_of}
use Rattle.machine.specs.Laws.{call_moved, OriginAllowed, AllOf, Whole, calls_of, Accepted, OnlySlot, Apart}
use Rattle.views.specs.View.{View, size_of, shown_at}
use Rattle.views.specs.Step.{Step, Start}

pub data Ran : View → List Call → List Answer → View → Type 0 where
  still : {v : View} → Ran v [] [] v
  step : {v u w : View} {call : Call} {said : Answer} {calls : List Call} {later : List Answer} → Step v call said u → Ran u calls later w → Ran v (call ∷ calls) (said ∷ later) w

-- a stage started with these terms, which was then fed the calls, gave the answers and stands as w
pub record Run (mark : ℕ) (region : Region) (colors : ℕ) (kinds : List ℕ) (calls : List Call) (said : List Answer) (w : View) : Type 0 where
  pub unstarted : View
  pub started : View
  pub start : Start unstarted mark region colors kinds None started
  pub ran : Ran started calls said w

-- each answer was the definition's, and each slot shows what the definition gives it
abbrev pub Faithful : Type 0
Faithful =
    (mark : ℕ) (region : Region) (colors : ℕ) (kinds : List ℕ) (calls : List Call) (said : List Answer) (w : View)
    → (r : Run mark region colors kinds calls said w)
    → let s = setup_of mark region colors kinds in
    let size = size_of r.unstarted.held in
    (said ≡ answers size s begun calls) × ((k c : ℕ) (x y : ℤ) → shown_at w k c x y ≡ show s (run size s begun calls) k c x y)

-- the second region lies inside the first: equal calls get equal answers, and every slot shows the same throughout the smaller region
abbrev pub CropRuns : Type 0
CropRuns =
    (mark : ℕ) (a b : Region) (colors : ℕ) (kinds : List ℕ) (calls : List Call) (saidA saidB : List Answer) (v w : View)
    → Run mark a colors kinds calls saidA v
    → Run mark b colors kinds calls saidB w
    → Holds a b
    → (saidB ≡ saidA) × ((k c : ℕ) (x y : ℤ) → has b x y ≡ true → shown_at w k c x y ≡ shown_at v k c x y)

-- the second region is the first, moved, and every origin moves with it, within the limits before and after: equal answers, and the same is shown at
-- the moved positions
abbrev pub ShiftRuns : Type 0
ShiftRuns =
    (mark : ℕ) (a b : Region) (dx dy : ℤ) (colors : ℕ) (kinds : List ℕ) (calls : List Call) (saidA saidB : List Answer) (v w : View)
    → ((x y : ℤ) → has b (x +ℤ dx) (y +ℤ dy) ≡ has a x y)
    → AllOf OriginAllowed calls
    → AllOf OriginAllowed (map (call_moved dx dy) calls)
    → Run mark a colors kinds calls saidA v
    → Run mark b colors kinds (map (call_moved dx dy) calls) saidB w
    → (saidB ≡ saidA) × ((k c : ℕ) (x y : ℤ) → shown_at w k c (x +ℤ dx) (y +ℤ dy) ≡ shown_at v k c x y)

-- Two neighbouring frames, all of whose calls the first stage accepted, trade places on the second, with one slot the only source and target of both
-- and no position drawn by both: the second stage accepts them too, and after them, and after each later call, both answer and show the same.
abbrev pub ExchangeRuns : Type 0
ExchangeRuns =
    (mark : ℕ) (region : Region) (colors : ℕ) (kinds : List ℕ) (before : List Call) (f g : Whole) (m n slot : ℕ) (later : List Call)
    (saidA₀ saidA₁ saidA₂ saidB₀ saidB₁ saidB₂ : List Answer) (v₀ v₁ v₂ w₀ w₁ w₂ : View)
    → OnlySlot slot f
    → OnlySlot slot g
    → Apart (setup_of mark region colors kinds) f g
    → Run mark region colors kinds before saidA₀ v₀
    → Ran v₀ (calls_of mark m f ++ calls_of mark n g) saidA₁ v₁
    → AllOf Accepted saidA₁
    → Ran v₁ later saidA₂ v₂
    → Run mark region colors kinds before saidB₀ w₀
    → Ran w₀ (calls_of mark m g ++ calls_of mark n f) saidB₁ w₁
    → Ran w₁ later saidB₂ w₂
    → AllOf Accepted saidB₁ × (saidB₂ ≡ saidA₂) × ((k c : ℕ) (x y : ℤ) → shown_at w₂ k c x y ≡ shown_at v₂ k c x y)

pub record Laws : Type 0 where
  pub faithful : Faithful
  pub crop : CropRuns
  pub shift : ShiftRuns
  pub exchange : ExchangeRuns
