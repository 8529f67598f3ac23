-- Crop and shift are one induction; exchange is an equation of states.
use Rattle.std.proofs.Common.{refl}
use Rattle.machine.proofs.Moved.{crop, shift}
use Rattle.machine.proofs.Exchanged.{exchange}
use Rattle.machine.proofs.definition_laws.Goals as goal

pub returns : goal.returns
returns c = record { told = refl; laws = record { crop = crop; shift = shift; exchange = exchange } }
