-- What `lay` prints for an input.
use Rattle.std.specs.Prelude.{ℕ, cond, List, [], ◌++◌, Some, None, codes, decimal, Option, nat_lt}
use Rattle.refusal.specs.Table.{number_of, refusal_of, layer_of}
use Rattle.refusal.specs.declared.Refusal.TheVariants.{InputLength, PlateHeader}
use Rattle.refusal.specs.declared.Fault.TheVariants as fault
use Rattle.laying.specs.declared.Refused.{Refused}

-- the longest input, and a plate's header
abbrev pub longest_input : ℕ
longest_input = 65536

abbrev pub header_length : ℕ
header_length = 64

-- what is refused of an input of so many bytes, before a plate is read
abbrev pub refused_by : ℕ → Option Refused
refused_by bytes =
    cond (nat_lt longest_input bytes) (Some (record { fault = fault.Input InputLength; plate = 0; byte = longest_input }))
    (cond (nat_lt bytes header_length) (Some (record { fault = fault.Plate PlateHeader; plate = 0; byte = 0 })) None)

-- the number, the layer, the plate and its first byte
abbrev pub refused_text : Refused → List ℕ
refused_text r =
    codes "refused "
    ++ (decimal (number_of (refusal_of r.fault))
    ++ (codes " " ++ (layer_of r.fault ++ (codes " " ++ (decimal r.plate ++ (codes " " ++ decimal r.byte))))))

-- in a line of its own
abbrev pub refused_line : Refused → List ℕ
refused_line r = refused_text r ++ codes "\n"

abbrev pub printed : Option Refused → List ℕ
printed (Some refused) = refused_line refused
printed None = []
