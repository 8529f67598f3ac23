-- What is known of a plate that passes its checks.
use Rattle.std.proofs.Common.{◌≡◌, ℕ, ◌<◌, ◌≤◌, Bool, true, false, cond, not, leb, List, length, Some, None, Option, refl, arith}
use Rattle.std.proofs.lemmas.Bool.{leb-true}
use Rattle.std.proofs.lemmas.Bool.Decides.{nat_tests}
use Rattle.refusal.specs.declared.Refusal.{Refusal}
use Rattle.machine.specs.Checks.{first_broken, frame_allowed}
use Rattle.plate.specs.Format.{Alike, header_of, length_of, header_sound, channels_allowed, formulas_hold, plate_checks}

-- a check that was passed held, and so did those after it
pub passed : (fine : Bool) (why : Refusal) (later : Option Refusal) → None ≡ cond (not fine) (Some why) later → (fine ≡ true) × (None ≡ later)
passed true why later e = (refl, e)
passed false why later e = let z : ◌≡◌ {A = ℕ} 0 1 = cc in absurd (omega arith)

pub both_passed : (one two : Bool) (why other : Refusal) → None ≡ cond (not one) (Some why) (cond (not two) (Some other) None) → (one ≡ true) × (two ≡ true)
both_passed one two why other e = let first = passed one why _ e in (first.0, (passed two other None first.1).0)

-- what the first of two checks refuses is refused whatever comes after them
pub refused : (one two : Bool) (why other r : Refusal) (later : Option Refusal) → Some r ≡ cond (not one) (Some why) (cond (not two) (Some other) None) → Some r ≡ cond (not one) (Some why) (cond (not two) (Some other) later)
refused false two why other r later e = e
refused true false why other r later e = e
refused true true why other r later e = cc

has_length : (bytes : List ℕ) → formulas_hold bytes ≡ true → 0 < length_of bytes
has_length bytes h = grind (arith, nat_tests)

-- it has some bytes, and lies within the input
pub some_within : (first : Option Alike) (bytes : List ℕ) → None ≡ first_broken (plate_checks first bytes) → (0 < length_of bytes) × (length_of bytes ≤ length bytes)
some_within first bytes e =
    let header = passed (header_sound bytes) _ _ e in
    let channels = passed (channels_allowed bytes) _ _ header.1 in
    let frame = passed (frame_allowed (header_of bytes)) _ _ channels.1 in
    let formulas = passed (formulas_hold bytes) _ _ frame.1 in
    let cut = passed (leb (length_of bytes) (length bytes)) _ _ formulas.1 in
    (has_length bytes formulas.0, leb-true (length_of bytes) (length bytes) cut.0)
