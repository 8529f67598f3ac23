-- What a plate means: what its bytes say.
use Rattle.std.specs.Prelude.{ℕ, List}
use Rattle.picture.specs.Meaning.{Meaning}
use Rattle.plate.specs.Format.{plate_meaning}
use Rattle.plate.specs.declared.Plate.{Plate}

-- the bytes from its first on
abbrev pub bytes_of : Plate → List ℕ
bytes_of p = p.bytes.now

abbrev pub meaning_of : Plate → Meaning
meaning_of p = plate_meaning (bytes_of p)
