-- The calls that a started stage is fed, and its answers. A picture stands in a call by what it shows.
use Rattle.std.specs.Prelude.{ℕ, List, ℤ, Float}
use Rattle.refusal.specs.declared.Refusal.{Refusal}
use Rattle.region.specs.declared.Region.{Region}
use Rattle.machine.specs.declared.calls.Header.{Header}
use Rattle.machine.specs.declared.calls.FrameRecord.{FrameRecord}
use Rattle.machine.specs.declared.calls.PatchRecord.{PatchRecord}
use Rattle.machine.specs.declared.calls.Rectangle.{Rectangle}
use Rattle.machine.specs.declared.calls.Stamp.{Stamp}

-- one float for each channel and position
abbrev pub Canvas : Type 0
Canvas = ℕ → ℤ → ℤ → Float

-- what a picture shows: 0.0 wherever it has no sample. Two pictures are the same if these are.
pub record Image : Type 0 where
  pub channels : ℕ
  pub region : Region
  pub values : Canvas

-- a part of a sheet, put with its corner at a place of the frame
pub record Patch : Type 0 where
  pub rectangle : Rectangle
  pub x : ℤ
  pub y : ℤ
  pub records : List PatchRecord
  pub sheet : Image

pub data Call : Type 0 where
  opening : Header → List FrameRecord → Image → Call
  patching : Stamp → Patch → Call
  blending : Stamp → Call
  abandoning : Stamp → Call
  clearing : ℕ → Call

pub data Answer : Type 0 where
  done : Answer
  opened : Stamp → Answer
  refused : Refusal → Answer
