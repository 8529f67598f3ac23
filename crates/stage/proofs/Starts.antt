-- What a start admits fits the terms.
use Rattle.std.proofs.Common.{◌≡◌, ℕ, ◌≤◌, true, ◌&&◌, ◌||◌, eqb, leb, ◌⊎◌, List, length, None, sym, ⊎_elim, arith}
use Rattle.std.proofs.lemmas.Bool.{and_parts, and_from, or_cases, not-false, eqb-true, le-leb}
use Rattle.region.specs.declared.Region.{Region}
use Rattle.machine.specs.Checks.{start_checks}
use Rattle.machine.specs.declared.calls.Size.{Size}
use Rattle.machine.specs.Machine.{start_refusal}
use Rattle.machine.proofs.Wholes.{none_unbroken}

-- what start admits has three colours and eight extra channels at the most
pub start_fits : (size : Size) (region : Region) (colors : ℕ) (kinds : List ℕ) → None ≡ start_refusal size region colors kinds → (leb colors 3 && leb (length kinds) 8) ≡ true
start_fits size region colors kinds fine =
    let channels = not-false _ (none_unbroken (start_checks size region colors kinds) (sym fine)).1.0 in
    let parts = and_parts (eqb colors 1 || eqb colors 3) _ channels in
    and_from _ _ (le-leb colors 3 (few (or_cases (eqb colors 1) (eqb colors 3) parts.0))) (and_parts (leb (length kinds) 8) _ parts.1).0
  where
    few : ((eqb colors 1 ≡ true) ⊎ (eqb colors 3 ≡ true)) → colors ≤ 3
    few = ⊎_elim (λ one. omega (arith, eqb-true colors 1 one)) (λ three. omega (arith, eqb-true colors 3 three))
