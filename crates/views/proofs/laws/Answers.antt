-- Every run follows the definition, and the definition keeps the laws.
use Rattle.std.proofs.Common.{refl}
use Rattle.views.proofs.Lawful.{all_laws}
use Rattle.views.proofs.laws.Goals as goal

pub returns : goal.returns
returns c = record { told = refl; laws = all_laws }
