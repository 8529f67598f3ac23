-- Numbers that stand in bytes, the lowest byte first. Past the end every byte reads as 0.
use Rattle.std.specs.Prelude.{ℕ, ◌+◌, ◌*◌, List, ℤ, from_bits, slice_index, Float}
use Rattle.std.specs.Float.{binary32}
use Rattle.std.specs.Int.{w32}
use Rattle.std.proofs.Common.{to_z}

abbrev pub byte_at : List ℕ → ℕ → ℕ
byte_at bytes place = slice_index bytes place

-- a u32
unfoldable pub word_at : List ℕ → ℕ → ℕ
word_at bytes place =
    byte_at bytes place + byte_at bytes (place + 1) * 256 + byte_at bytes (place + 2) * 65536 + byte_at bytes (place + 3) * 16777216

-- an i32: the same bits, as two's complement
unfoldable pub signed_at : List ℕ → ℕ → ℤ
signed_at bytes place = to_z w32 (word_at bytes place)

-- an f32: the same bits; each pattern of a NaN is no-number
unfoldable pub float_at : List ℕ → ℕ → Float
float_at bytes place = from_bits binary32 (word_at bytes place)
