-- The first broken condition of two lists, one behind the other.
use Rattle.std.proofs.Common.{◌≡◌, Bool, true, false, cond, List, [], ◌∷◌, ◌++◌, is_some, Some, Option, refl}
use Rattle.std.proofs.lemmas.Bool.{true≢false, false≢true}
use Rattle.refusal.specs.declared.Refusal.{Refusal}
use Rattle.machine.specs.Checks.{Check, first_broken}

-- by whether the head is broken
here_some :
    (b : Bool) (r : Refusal) (more most : Option Refusal)
    → (is_some more ≡ true → more ≡ most)
    → is_some (cond b (Some r) more) ≡ true
    → cond b (Some r) more ≡ cond b (Some r) most
here_some true r more most later h = refl
here_some false r more most later h = later h

here_none :
    (b : Bool) (r : Refusal) (more most last : Option Refusal)
    → (is_some more ≡ false → last ≡ most)
    → is_some (cond b (Some r) more) ≡ false
    → last ≡ cond b (Some r) most
here_none true r more most last later h = absurd (true≢false h)
here_none false r more most last later h = later h

-- one of the first list, if it has one
pub first_some : (cs ds : List Check) → is_some (first_broken cs) ≡ true → first_broken cs ≡ first_broken (cs ++ ds)
first_some [] ds h = absurd (false≢true h)
first_some (c ∷ cs) ds h = here_some c.broken c.refusal (first_broken cs) (first_broken (cs ++ ds)) (first_some cs ds) h

-- else of the second
pub first_none : (cs ds : List Check) → is_some (first_broken cs) ≡ false → first_broken ds ≡ first_broken (cs ++ ds)
first_none [] ds h = refl
first_none (c ∷ cs) ds h = here_none c.broken c.refusal (first_broken cs) (first_broken (cs ++ ds)) (first_broken ds) (first_none cs ds) h
