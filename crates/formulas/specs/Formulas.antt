-- The formulas by which a new sample meets an old one. Each operation rounds once to f32, in the order that the brackets show.
use Rattle.std.specs.Prelude.{Bool, cond, Float}
use Rattle.std.specs.Float.Ieee as f32
use Rattle.std.specs.Float.{binary32}
use Rattle.std.specs.Float.Ieee.{lt}
use Rattle.sample.specs.Samples.{zero, one}
use Rattle.formulas.specs.declared.Operands.{Operands}

infixl 30 ◌⊕◌
infixl 30 ◌⊖◌
infixl 40 ◌⊗◌
infixl 40 ◌⊘◌
abbrev pub ◌⊕◌ : Float → Float → Float
x ⊕ y = f32.add binary32 x y

abbrev pub ◌⊖◌ : Float → Float → Float
x ⊖ y = f32.sub binary32 x y

abbrev pub ◌⊗◌ : Float → Float → Float
x ⊗ y = f32.mul binary32 x y

abbrev pub ◌⊘◌ : Float → Float → Float
x ⊘ y = f32.div binary32 x y

-- below 0 to 0.0, above 1 to 1.0, any other as it is: -0.0 and what is not a number among them
abbrev pub clamped : Float → Float
clamped x = cond (lt x zero) zero (cond (lt one x) one x)

-- old and new trade places, and their alphas with them
abbrev pub exchanged : Bool → Operands → Operands
exchanged swapped o = cond swapped (record { base = o.new; new = o.base; base_alpha = o.new_alpha; new_alpha = o.base_alpha }) o

abbrev pub clamp_new : Bool → Operands → Operands
clamp_new clamp o =
    record { base = o.base; new = cond clamp (clamped o.new) o.new; base_alpha = o.base_alpha; new_alpha = o.new_alpha }

abbrev pub clamp_new_alpha : Bool → Operands → Operands
clamp_new_alpha clamp o =
    record { base = o.base; new = o.new; base_alpha = o.base_alpha; new_alpha = cond clamp (clamped o.new_alpha) o.new_alpha }

-- the seven kernels
abbrev pub replace_of : Operands → Float
replace_of o = o.new

abbrev pub add_of : Operands → Float
add_of o = o.base ⊕ o.new

abbrev pub mul_of : Operands → Float
mul_of o = o.base ⊗ o.new

abbrev pub skip_of : Operands → Float
skip_of o = o.base

abbrev pub mix_alpha_of : Operands → Float
mix_alpha_of o = o.base ⊕ (o.new ⊗ (one ⊖ o.base))

abbrev pub mul_add_of : Operands → Float
mul_add_of o = o.base ⊕ (o.new_alpha ⊗ o.new)

-- the alpha of both together, and its reciprocal where there is any
abbrev pub mixed_alpha : Operands → Float
mixed_alpha o = one ⊖ ((one ⊖ o.new_alpha) ⊗ (one ⊖ o.base_alpha))

abbrev pub recip_of : Float → Float
recip_of m = cond (lt zero m) (one ⊘ m) zero

abbrev pub blend_of : Bool → Operands → Float
blend_of premultiplied o =
    cond premultiplied
    (o.new ⊕ (o.base ⊗ (one ⊖ o.new_alpha)))
    (((o.new_alpha ⊗ o.new) ⊕ ((o.base_alpha ⊗ o.base) ⊗ (one ⊖ o.new_alpha))) ⊗ recip_of (mixed_alpha o))
