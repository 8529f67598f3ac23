-- Worked sums: formulas at given floats, and regions that meet. They are stated of the definitions that the code is proved against.
use Rattle.std.specs.Prelude.{◌≡◌, ℕ, Bool, true, false, ◌&&◌, List, [], ◌∷◌, ℤ, pos, from_bits, refl, Float}
use Rattle.std.specs.Float.{binary32}
use Rattle.sample.specs.Samples.{zero, one}
use Rattle.region.specs.Bounds.{is_region}
use Rattle.region.specs.Positions.{has}
use Rattle.region.specs.declared.Region.{Region}
use Rattle.blend.specs.Tables.{formula}
use Rattle.formulas.specs.declared.Operands.{Operands}
use Rattle.blend.specs.declared.records.BlendAlpha.{BlendAlpha}
use Rattle.blend.specs.declared.records.BlendMode.{BlendMode}
use Rattle.blend.specs.declared.records.BlendMode.TheVariants.{Mul, Blend, MulAdd, MixAlpha}

pub data Sum : Type 0 where
  gives : BlendMode → Operands → Float → Sum
  meets : Region → Region → Region → Sum

-- the formula makes that float; the third region has the positions of both others, and no more
abbrev pub Holds : Sum → Type 0
Holds (gives mode operands result) = formula mode operands ≡ result
Holds (meets a b both) = (x y : ℤ) → has both x y ≡ (has a x y && has b x y)

abbrev pub AllHold : List Sum → Type 0
AllHold [] = Unit {0}
AllHold (sum ∷ sums) = Holds sum × AllHold sums

abbrev float : ℕ → Float
float bits = from_bits binary32 bits

abbrev quarter : Float
quarter = float 0x3e80_0000

abbrev half : Float
half = float 0x3f00_0000

abbrev five_eighths : Float
five_eighths = float 0x3f20_0000

abbrev three_quarters : Float
three_quarters = float 0x3f40_0000

abbrev seven_eighths : Float
seven_eighths = float 0x3f60_0000

abbrev three_halves : Float
three_halves = float 0x3fc0_0000

abbrev two : Float
two = float 0x4000_0000

abbrev alpha : (swapped premultiplied : Bool) → BlendAlpha
alpha swapped premultiplied = record { channel = 0; clamp = false; swapped = swapped; premultiplied = premultiplied }

abbrev operands : (base new baseAlpha newAlpha : Float) → Operands
operands base new baseAlpha newAlpha = record { base = base; new = new; base_alpha = baseAlpha; new_alpha = newAlpha }

abbrev rectangle : (left top width height : ℕ) → is_region (pos left) (pos top) width height ≡ true → Region
rectangle left top width height ok = record { left = pos left; top = pos top; width = width; height = height; ok = ok }

abbrev pub checked_sums : List Sum
checked_sums =
    gives (Blend (alpha false false)) (operands quarter three_quarters one half) half
    ∷ (gives (Blend (alpha false true)) (operands quarter three_quarters one half) seven_eighths
    ∷ (gives (Blend (alpha false false)) (operands quarter one half one) one
    ∷ (gives (Blend (alpha true false)) (operands quarter one half one) five_eighths
    ∷ (gives (Blend (alpha false false)) (operands quarter one zero zero) zero
    ∷ (gives (Mul false) (operands half three_halves zero zero) three_quarters
    ∷ (gives (Mul true) (operands half three_halves zero zero) half
    ∷ (gives (MixAlpha false false) (operands half half zero zero) three_quarters
    ∷ (gives (MulAdd (alpha false false)) (operands half quarter zero two) one
    ∷ (meets (rectangle 0 0 4 4 refl) (rectangle 3 3 4 4 refl) (rectangle 3 3 1 1 refl)
    ∷ (meets (rectangle 0 0 4 4 refl) (rectangle 4 0 2 2 refl) (rectangle 0 0 0 0 refl)
    ∷ []))))))))))
