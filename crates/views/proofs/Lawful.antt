-- The laws of runs: a run answers and shows as the definition does, and the definition keeps its own laws.
use Rattle.std.proofs.Common.{ℕ, List, ◌++◌, map, ◌+ℤ◌, sym, refl, ap, ◌∙◌, subst}
use Rattle.region.specs.declared.Region.{Region}
use Rattle.machine.specs.Calls.{Call, Answer}
use Rattle.machine.specs.Machine.{begun, run, answers, show, setup_of}
use Rattle.machine.specs.Laws.{Alike, AllOf, Accepted, call_moved, calls_of}
use Rattle.machine.proofs.Moved as moved
use Rattle.machine.proofs.Exchanged as exchanged
use Rattle.views.specs.View.{View, size_of}
use Rattle.views.specs.Runs.{Run, Faithful, CropRuns, ShiftRuns, ExchangeRuns, Laws}
use Rattle.views.proofs.Followed.{shown, ran_follows, run_fits, run_follows}

pub faithful : Faithful
faithful mark region colors kinds calls said w r =
    let follows = run_follows r (size_of r.unstarted.held) (run_fits r) in
    (follows.0, shown follows.1)

-- each start took a store that fits
runs_alike :
    {mark : ℕ} {a b : Region} {colors : ℕ} {kinds : List ℕ} {calls others : List Call} {saidA saidB : List Answer} {v w : View}
    (one : Run mark a colors kinds calls saidA v) (two : Run mark b colors kinds others saidB w)
    → Alike (size_of one.unstarted.held) (setup_of mark a colors kinds) (size_of two.unstarted.held) (setup_of mark b colors kinds)
runs_alike one two = record { mark = refl; colors = refl; kinds = refl; fits_a = run_fits one; fits_b = run_fits two }

pub crop : CropRuns
crop mark a b colors kinds calls saidA saidB v w one two holds =
    let here = faithful mark a colors kinds calls saidA v one in
    let there = faithful mark b colors kinds calls saidB w two in
    let law = moved.crop _ _ _ _ (runs_alike one two) holds calls in
    (there.0 ∙ law.0 ∙ sym here.0, λ k c x y t. there.1 k c x y ∙ law.1 k c x y t ∙ sym (here.1 k c x y))

pub shift : ShiftRuns
shift mark a b dx dy colors kinds calls saidA saidB v w moves allowed allowed' one two =
    let here = faithful mark a colors kinds calls saidA v one in
    let there = faithful mark b colors kinds (map (call_moved dx dy) calls) saidB w two in
    let law = moved.shift _ _ _ _ dx dy (runs_alike one two) moves calls allowed allowed' in
    (there.0 ∙ law.0 ∙ sym here.0, λ k c x y. there.1 k c (x +ℤ dx) (y +ℤ dy) ∙ law.1 k c x y ∙ sym (here.1 k c x y))

-- Stores may differ in the planes that they have to spare, and no answer depends on those: both runs are followed by the first one's size.
pub exchange : ExchangeRuns
exchange mark region colors kinds before f g m n slot later _ saidA₁ saidA₂ _ saidB₁ saidB₂ v₀ v₁ v₂ w₀ w₁ w₂ only_f onlyG apart oneA twoA accepted threeA oneB twoB threeB =
    let s = setup_of mark region colors kinds in
    let size = size_of oneA.unstarted.held in
    let first = calls_of mark m f ++ calls_of mark n g in
    let second = calls_of mark m g ++ calls_of mark n f in
    let start = run size s begun before in
    let a₀ = run_follows oneA size (run_fits oneA) in
    let a₁ = ran_follows size s start v₀ v₁ first saidA₁ a₀.1 twoA in
    let a₂ = ran_follows size s (run size s start first) v₁ v₂ later saidA₂ a₁.1 threeA in
    let b₀ = run_follows oneB size (run_fits oneA) in
    let b₁ = ran_follows size s start w₀ w₁ second saidB₁ b₀.1 twoB in
    let b₂ = ran_follows size s (run size s start second) w₁ w₂ later saidB₂ b₁.1 threeB in
    let law = exchanged.exchange size s before f g m n slot later only_f onlyG apart (subst (AllOf Accepted) a₁.0 accepted) in
    let endA = exchanged.run_append size s before first begun in
    let endB = exchanged.run_append size s before second begun in (
      subst (AllOf Accepted) (sym b₁.0) law.0,
      b₂.0 ∙ ap (λ w. answers size s w later) (sym endB) ∙ law.1 ∙ ap (λ w. answers size s w later) endA ∙ sym a₂.0,
      λ k c x y.
          shown b₂.1 k c x y
          ∙ ap (λ w. show s (run size s w later) k c x y) (sym endB)
          ∙ law.2 k c x y
          ∙ ap (λ w. show s (run size s w later) k c x y) endA
          ∙ sym (shown a₂.1 k c x y),
    )

pub all_laws : Laws
all_laws = record { faithful = faithful; crop = crop; shift = shift; exchange = exchange }
