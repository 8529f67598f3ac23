-- What it means and what is made are one, the store of the order's numbers.
use Rattle.std.proofs.Common.{sym, ◌∙◌}
use Rattle.layout.proofs.slices.SliceStore.new.Goals as goal

pub returns-clause-made : goal.returns-clause-made
returns-clause-made g c = g.met.O.Order.meant _ ∙ sym (g.met.O.Order.makes _ _ _ _)
