-- Rows drawn column by column.
use Rattle.std.proofs.Common.{◌≡◌, ℕ, ◌+◌, ◌-◌, ◌<◌, ◌≤◌, cond, List, ◌++◌, length, get_or, take, drop, set, sym, ap, ◌∙◌, subst, ⊎_elim, arith, nat_lt, Float}
use borrow.Rule.Slice.PartMut.{post_of}
use Rattle.std.specs.Float.{nan}
use Rattle.std.proofs.lemmas.List.{get_or-set_same, get_or-set_other, get_or_append_left, get_or-append_right, get_or-drop, get_or-take}
use Rattle.std.proofs.lemmas.Bool.{cases_eq, cases_lt, cond-true, cond-false, lt-ltb, le-ltb}
use Rattle.std.proofs.lemmas.Bool.Decides.{nat_tests}
use Rattle.formulas.specs.declared.Operands.{Operands}
use Rattle.blend.specs.Rows.{operands_at, row_at}

module _ (f : Operands → Float) (was is new base_alpha new_alpha : List Float) (i : ℕ) (v : Float) where
  -- with i columns drawn, column i is as it was, and writing what the formula makes there draws one more
  pub row_more : i < length is → ((k : ℕ) → get_or is k nan ≡ row_at f i was new base_alpha new_alpha k) → v ≡ f (record { base = get_or is i nan; new = get_or new i nan; base_alpha = get_or base_alpha i nan; new_alpha = get_or new_alpha i nan }) → (k : ℕ) → get_or (set is i v) k nan ≡ row_at f (i + 1) was new base_alpha new_alpha k
  row_more long drawn made k =
      ⊎_elim
      (λ e.
      let here : get_or (set is i v) i nan ≡ row_at f (i + 1) was new base_alpha new_alpha i =
      get_or-set_same is i v nan long
      ∙ made
      ∙ ap
      (λ (b : Float). f (record { base = b; new = get_or new i nan; base_alpha = get_or base_alpha i nan; new_alpha = get_or new_alpha i nan }))
      (drawn i ∙ cond-false (nat_lt i i) _ _ (le-ltb i i (omega arith)))
      ∙ sym (cond-true (nat_lt i (i + 1)) _ _ (lt-ltb i (i + 1) (omega arith)))
      in subst (λ (j : ℕ). get_or (set is i v) j nan ≡ row_at f (i + 1) was new base_alpha new_alpha j) (sym e) here)
      (λ ne.
      get_or-set_other is i k v nan ne
      ∙ drawn k
      ∙ ap (λ b. cond b (f (operands_at was new base_alpha new_alpha k)) (get_or was k nan)) (grind (arith, nat_tests)))
      (cases_eq k i)

module _ (f : Operands → Float) (base new base_alpha new_alpha drawn : List Float) (n i : ℕ) where
  -- the first n columns are drawn as those of a shorter row, and the others stay
  pub row_whole : n ≤ length base → length drawn ≡ n → n ≤ i → ((k : ℕ) → get_or drawn k nan ≡ row_at f i (take (n - 0) base) new base_alpha new_alpha k) → (m : ℕ) → n ≡ m → (k : ℕ) → get_or (drawn ++ post_of 0 (n - 0) base) k nan ≡ row_at f m base new base_alpha new_alpha k
  row_whole fits long far made m e k =
      ⊎_elim
      (λ (l : k < n).
      get_or_append_left drawn _ nan k (omega arith)
      ∙ made k
      ∙ cond-true (nat_lt k i) (f (operands_at (take (n - 0) base) new base_alpha new_alpha k)) (get_or (take (n - 0) base) k nan) (lt-ltb k i (omega arith))
      ∙ ap (λ (b : Float). f (record { base = b; new = get_or new k nan; base_alpha = get_or base_alpha k nan; new_alpha = get_or new_alpha k nan })) (get_or-take (n - 0) base k nan (omega arith))
      ∙ sym (cond-true (nat_lt k m) (f (operands_at base new base_alpha new_alpha k)) (get_or base k nan) (lt-ltb k m (omega arith))))
      (λ (g : n ≤ k).
      get_or-append_right drawn _ n k nan long g
      ∙ get_or-drop (n - 0) (drop 0 base) (k - n) nan
      ∙ ap (λ j. get_or base j nan) (omega arith)
      ∙ sym (cond-false (nat_lt k m) (f (operands_at base new base_alpha new_alpha k)) (get_or base k nan) (le-ltb k m (omega arith))))
      (cases_lt k n)
