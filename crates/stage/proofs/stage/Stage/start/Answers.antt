-- The laws hold of every run; and terms can always be made of what was admitted.
use Rattle.std.proofs.Common.{rules}
use Rattle.views.proofs.Lawful.{all_laws}
use Rattle.stage.proofs.Starts.{start_fits}
use Rattle.stage.proofs.stage.Stage.start.Goals as goal

pub returns-in_err-unless-clause-laws : goal.returns-in_err-unless-clause-laws
returns-in_err-unless-clause-laws g c = all_laws

pub returns-in_err-start_refusal-clause-laws : goal.returns-in_err-start_refusal-clause-laws
returns-in_err-start_refusal-clause-laws g c = all_laws

pub returns-in_err-terms-clause-start : goal.returns-in_err-terms-clause-start
returns-in_err-terms-clause-start g c =
    let fits = start_fits c.size.result c.args.region c.args.colors c.args.kinds.now (search rules) in
    search rules

pub returns-in_err-terms-clause-laws : goal.returns-in_err-terms-clause-laws
returns-in_err-terms-clause-laws g c = all_laws

pub returns-clause-laws : goal.returns-clause-laws
returns-clause-laws g c = all_laws
