-- The laws of the definition, over every list of calls.
use Rattle.std.specs.Prelude.{◌≡◌, ℕ, true, false, ◌&&◌, List, [], ◌∷◌, ◌++◌, map, ℤ, ◌+ℤ◌}
use Rattle.region.specs.Bounds.{place_allowed}
use Rattle.region.specs.Positions.{has, Holds}
use Rattle.machine.specs.declared.calls.Header.{Header}
use Rattle.machine.specs.declared.calls.FrameRecord.{FrameRecord}
use Rattle.machine.specs.Calls.{Image, Patch, Call, opening, patching, blending, abandoning, clearing, Answer, done, opened, refused}
use Rattle.machine.specs.Checks.{Setup, fits_store}
use Rattle.machine.specs.declared.calls.Size.{Size}
use Rattle.machine.specs.Machine.{begun, drawn, run, answers, show}

-- two stages that start alike: one mark, one colour count, one list of kinds, and each has a store that its start takes
pub record Alike (sizeA : Size) (a : Setup) (sizeB : Size) (b : Setup) : Type 0 where
  pub mark : b.mark ≡ a.mark
  pub colors : b.colors ≡ a.colors
  pub kinds : b.kinds ≡ a.kinds
  pub fits_a : fits_store sizeA a ≡ true
  pub fits_b : fits_store sizeB b ≡ true

-- the second region lies inside the first: equal calls get equal answers, and every slot shows the same throughout the smaller region
abbrev pub Crop : Type 0
Crop =
    (sizeA sizeB : Size) (a b : Setup)
    → Alike sizeA a sizeB b
    → Holds a.region b.region
    → (calls : List Call)
    → (answers sizeB b begun calls ≡ answers sizeA a begun calls)
    × ((k c : ℕ) (x y : ℤ) → has b.region x y ≡ true → show b (run sizeB b begun calls) k c x y ≡ show a (run sizeA a begun calls) k c x y)

-- ---- shift

abbrev pub header_moved : ℤ → ℤ → Header → Header
header_moved dx dy h =
    record { number = h.number; left = h.left +ℤ dx; top = h.top +ℤ dy; width = h.width; height = h.height; target = h.target }

-- the same call with its frame's origin moved
abbrev pub call_moved : ℤ → ℤ → Call → Call
call_moved dx dy (opening h records image) = opening (header_moved dx dy h) records image
call_moved dx dy (patching stamp p) = patching stamp p
call_moved dx dy (blending stamp) = blending stamp
call_moved dx dy (abandoning stamp) = abandoning stamp
call_moved dx dy (clearing slot) = clearing slot

-- an origin within the limits
abbrev pub OriginAllowed : Call → Type 0
OriginAllowed (opening h records image) = (place_allowed h.left && place_allowed h.top) ≡ true
OriginAllowed (patching stamp p) = Unit {0}
OriginAllowed (blending stamp) = Unit {0}
OriginAllowed (abandoning stamp) = Unit {0}
OriginAllowed (clearing slot) = Unit {0}

abbrev pub AllOf : {X : Type 0} → (X → Type 0) → List X → Type 0
AllOf P [] = Unit {0}
AllOf P (x ∷ xs) = P x × AllOf P xs

-- The second region is the first, moved, and every origin moves with it, within the limits before and after: answers are equal, and every slot
-- shows the same at the moved positions.
abbrev pub Shift : Type 0
Shift =
    (sizeA sizeB : Size) (a b : Setup) (dx dy : ℤ)
    → Alike sizeA a sizeB b
    → ((x y : ℤ) → has b.region (x +ℤ dx) (y +ℤ dy) ≡ has a.region x y)
    → (calls : List Call)
    → AllOf OriginAllowed calls
    → AllOf OriginAllowed (map (call_moved dx dy) calls)
    → (answers sizeB b begun (map (call_moved dx dy) calls) ≡ answers sizeA a begun calls)
    × ((k c : ℕ) (x y : ℤ)
    → show b (run sizeB b begun (map (call_moved dx dy) calls)) k c (x +ℤ dx) (y +ℤ dy) ≡ show a (run sizeA a begun calls) k c x y)

-- ---- exchange

-- a whole frame: its open, its patches and its blend, with nothing between
pub record Whole : Type 0 where
  pub header : Header
  pub records : List FrameRecord
  pub image : Image
  pub patches : List Patch

abbrev pub header_numbered : ℕ → Header → Header
header_numbered number h =
    record { number = number; left = h.left; top = h.top; width = h.width; height = h.height; target = h.target }

-- its calls, with the number that it bears in the header and in the tickets
abbrev pub calls_of : (mark number : ℕ) → Whole → List Call
calls_of mark number f =
    opening (header_numbered number f.header) f.records f.image
    ∷ (map (patching (record { mark = mark; number = number })) f.patches ++ (blending (record { mark = mark; number = number }) ∷ []))

abbrev pub Accepted : Answer → Type 0
Accepted done = Unit {0}
Accepted (opened stamp) = Unit {0}
Accepted (refused refusal) = ⊥

-- a slot is the only source and the target
pub record OnlySlot (slot : ℕ) (f : Whole) : Type 0 where
  pub target : f.header.target ≡ slot
  pub sources : AllOf (λ r. r.source ≡ slot) f.records

-- no position is drawn by both
abbrev pub Apart : Setup → Whole → Whole → Type 0
Apart s f g =
    (c : ℕ) (x y : ℤ) → (drawn s f.header f.image.region c x y && drawn s g.header g.image.region c x y) ≡ false

-- Two neighbouring frames trade places, and the lower number goes to the one that is now first: all their calls are accepted again, and once
-- both are blended, and after each later call, every slot shows the same, and later answers are equal.
abbrev pub Exchange : Type 0
Exchange =
    (size : Size) (s : Setup) (before : List Call) (f g : Whole) (m n slot : ℕ) (later : List Call)
    → OnlySlot slot f
    → OnlySlot slot g
    → Apart s f g
    → AllOf Accepted (answers size s (run size s begun before) (calls_of s.mark m f ++ calls_of s.mark n g))
    → let first = run size s begun (before ++ (calls_of s.mark m f ++ calls_of s.mark n g)) in
    let second = run size s begun (before ++ (calls_of s.mark m g ++ calls_of s.mark n f)) in
    AllOf Accepted (answers size s (run size s begun before) (calls_of s.mark m g ++ calls_of s.mark n f))
    × (answers size s second later ≡ answers size s first later)
    × ((k c : ℕ) (x y : ℤ) → show s (run size s second later) k c x y ≡ show s (run size s first later) k c x y)

pub record DefinitionLaws : Type 0 where
  pub crop : Crop
  pub shift : Shift
  pub exchange : Exchange
