-- The table of refusals: the number of each, and of a fault what was refused and by which layer.
use Rattle.std.specs.Prelude.{ℕ, List, codes}
use Rattle.refusal.specs.declared.Refusal.{Refusal}
use Rattle.refusal.specs.declared.Refusal.TheVariants as reason
use Rattle.refusal.specs.declared.Fault.{Fault}
use Rattle.refusal.specs.declared.Fault.TheVariants.{Input, Plate, Stage}

abbrev pub number_of : Refusal → ℕ
number_of reason.RegionLimits = 1
number_of reason.ChannelKinds = 2
number_of reason.StoreSize = 3
number_of reason.FrameLimits = 4
number_of reason.SlotNumber = 5
number_of reason.RecordCount = 6
number_of reason.ModeNumber = 7
number_of reason.MissingAlpha = 8
number_of reason.PictureChannels = 9
number_of reason.PictureLimits = 10
number_of reason.PatchRectangle = 11
number_of reason.PatchPlace = 12
number_of reason.NoRegion = 13
number_of reason.GridShape = 15
number_of reason.SampleDepth = 16
number_of reason.PlateHeader = 17
number_of reason.PlateFormula = 18
number_of reason.PlateCut = 19
number_of reason.PlateContent = 20
number_of reason.InputLength = 21
number_of reason.NotStarted = 31
number_of reason.AlreadyStarted = 32
number_of reason.FrameOpen = 33
number_of reason.NoFrameOpen = 34
number_of reason.WrongTicket = 35
number_of reason.FrameNumber = 36
number_of reason.OutsideStore = 37

abbrev pub refusal_of : Fault → Refusal
refusal_of (Input refusal) = refusal
refusal_of (Plate refusal) = refusal
refusal_of (Stage refusal) = refusal

abbrev pub layer_of : Fault → List ℕ
layer_of (Input refusal) = codes "input"
layer_of (Plate refusal) = codes "plate"
layer_of (Stage refusal) = codes "stage"
