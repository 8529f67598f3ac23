-- What an integer sample means, and the two floats that the definitions of the project name.
use Rattle.std.specs.Prelude.{ℕ, Bool, ◌&&◌, ℤ, pos, neg_ℤ, from_bits, int_le, Float}
use Rattle.std.specs.Float.{binary32}
use Rattle.std.specs.Float.Ieee.{of_int, div}

abbrev pub zero : Float
zero = from_bits binary32 0

abbrev pub one : Float
one = from_bits binary32 0x3f80_0000

-- f32 has every whole number up to here, both ways
abbrev pub countable : ℤ → Bool
countable i = int_le (neg_ℤ (pos 16777216)) i && int_le i (pos 16777216)

-- i as a part of the largest sample: both are whole numbers in f32, and the quotient is rounded once
abbrev pub part_of : ℤ → ℕ → Float
part_of i full = div binary32 (of_int binary32 i) (of_int binary32 (pos full))
