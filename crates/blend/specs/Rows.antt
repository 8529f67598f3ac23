-- A formula over rows of samples, column by column.
use Rattle.std.specs.Prelude.{ℕ, min, cond, List, length, nat_lt, slice_index_or, Float}
use Rattle.std.specs.Float.{nan}
use Rattle.formulas.specs.declared.Operands.{Operands}

-- the four floats at column k
abbrev pub operands_at : (base new baseAlpha newAlpha : List Float) → ℕ → Operands
operands_at base new baseAlpha newAlpha k =
    record { base = slice_index_or base k nan; new = slice_index_or new k nan; base_alpha = slice_index_or baseAlpha k nan; new_alpha = slice_index_or newAlpha k nan }

-- the columns that all four rows have
abbrev pub common : (base new baseAlpha newAlpha : List Float) → ℕ
common base new baseAlpha newAlpha = min (min (length base) (length new)) (min (length baseAlpha) (length newAlpha))

-- column k afterwards: the formula where every row has it, else as it was
abbrev pub row_at : (Operands → Float) → ℕ → (base new baseAlpha newAlpha : List Float) → ℕ → Float
row_at formula count base new baseAlpha newAlpha k =
    cond (nat_lt k count) (formula (operands_at base new baseAlpha newAlpha k)) (slice_index_or base k nan)
