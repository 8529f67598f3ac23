-- What the fields of a started stage, of an open frame and of a patch mean.
use Rattle.std.specs.Prelude.{take}
use Rattle.picture.specs.Meaning.{Meaning}
use Rattle.machine.specs.Calls.{Patch}
use Rattle.machine.specs.Checks.{Setup}
use Rattle.views.specs.View.{Opened, image_of}
use Rattle.canvas.specs.declared.terms as declared
use Rattle.canvas.specs.declared.terms.Terms.{Terms}
use Rattle.canvas.specs.declared.terms.OpenFrame.{OpenFrame}

abbrev pub setup_from : Terms → Setup
setup_from t = record { mark = t.mark; region = t.region; colors = t.colors; kinds = take t.extras t.kinds }

abbrev pub opened_from : OpenFrame → Opened
opened_from f = record { header = f.header; infos = take f.count f.infos; region = f.region }

abbrev pub patch_from : {P : Type 0} → (P → Meaning) → declared.Patch.Patch P → Patch
patch_from meaning p = record { rectangle = p.rectangle; x = p.x; y = p.y; records = p.records.now; sheet = image_of (meaning p.sheet.now) }
