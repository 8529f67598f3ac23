-- Columns below the counter are drawn, the others as they were, by whatever the kernel is known to make.
use Rattle.std.proofs.Common.{◌≡◌, ℕ, slice_index_or, Float}
use Rattle.std.specs.Float.{nan}
use Rattle.formulas.specs.declared.Operands.{Operands}
use Rattle.blend.specs.Rows.{row_at}
use Rattle.blend.proofs.rows.draw.Given as goal

abbrev pub invariant-loop-column : goal.invariant-loop-column
invariant-loop-column g l =
    (made : Operands → Float) → ((o : Operands) (r : Float) → goal.F-post g l.kernel o r → r ≡ made o) → (k : ℕ) → slice_index_or l.sample-items k nan ≡ row_at made l.column l.initial.sample-items l.fn.from.new.now l.fn.from.base_alpha.now l.fn.from.new_alpha.now k
