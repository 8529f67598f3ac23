-- The places before the row are those below the one gap, and the columns before the buffer those below the other.
use Rattle.std.proofs.Common.{◌≡◌, ℕ, ◌+◌, ◌-◌, ◌<◌, ◌≤◌, false, cond, ltb, List, length, get_or, ℤ, pos, ◌+ℤ◌, ◌-ℤ◌, nat_abs, ◌≤ℤ◌, ◌<ℤ◌, sym, ◌∙◌, ⊎_elim, arith, w64, SFits}
use lib.Ieee.{Float}
use Rattle.std.proofs.lemmas.Bool.Decides.{nat_tests}
use Rattle.std.proofs.lemmas.List.{get_or_past, length-map}
use Rattle.std.proofs.lemmas.Int.{ints, by_lt_z, to_z-of_z}
use Rattle.std.proofs.lemmas.Bool.{cases_lt, cond_above, cond_below}
use Rattle.sample.specs.Samples.{zero}
use Rattle.region.specs.Positions.{along}
use Rattle.steps.specs.Gaps.{gap_of}
use Rattle.picture.proofs.rows.write_row.Goals as goal

-- a column past the end reads as 0.0
within : (values : List Float) (column n : ℕ) → n ≡ length values → get_or values column zero ≡ cond (ltb column n) (get_or values column zero) zero
within values column n e =
    ⊎_elim (λ (l : column < n). cond_below column n _ _ l) (λ (l : n ≤ column). cond_above column n _ _ _ l (get_or_past values column zero (omega arith)))
    (cases_lt column n)

along_column : (left at : ℤ) (n : ℕ) → left ≤ℤ at → ltb (nat_abs (at -ℤ left)) n ≡ along left n at
along_column left at n l = grind (arith, ints)

module _ (left x : ℤ) (k lead skip n : ℕ) (e : lead ≡ gap_of x left) (f : skip ≡ gap_of left x) where
  abbrev column : ℕ
  column = nat_abs ((x +ℤ pos k) -ℤ left)

  before : (x +ℤ pos k) <ℤ left → (k < lead) × (along left n (x +ℤ pos k) ≡ false)
  before l = (grind (arith, ints), grind (arith, ints))

  after : left ≤ℤ (x +ℤ pos k) → (lead ≤ k) × (skip + (k - lead) ≡ column)
  after l = (grind (arith, ints), grind (arith, ints))

  aligned : (values : List Float) → n ≡ length values → cond (ltb k lead) zero (get_or values (skip + (k - lead)) zero) ≡ cond (along left n (x +ℤ pos k)) (get_or values column zero) zero
  aligned values long =
      by_lt_z (x +ℤ pos k) left (λ l. let b = before l in grind (arith, nat_tests, b.0, b.1))
      (λ l. let a = after l in let c = along_column left (x +ℤ pos k) n l in let w = within values column n long in grind (arith, nat_tests, a.0, a.1, c, w))

pub returns : goal.returns
returns g c =
    let fl : SFits w64 c.args.left = c.ranges.left in
    let fx : SFits w64 c.args.x = c.ranges.x in
    λ k h.
    c.write_from.ensures k h
    ∙ aligned c.args.left c.args.x k _ _ (length c.args.row.now) (simp to_z-of_z at c.gap.ensures) (simp to_z-of_z at c.gap-2.ensures) _
    (sym (length-map c.args.row.now _))
