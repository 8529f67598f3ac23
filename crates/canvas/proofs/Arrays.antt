-- Arrays made by calls of a closure that changes nothing: what each call gives, its element is; and the first elements of such an array.
use Rattle.std.proofs.Common.{◌≡◌, ℕ, zero, suc, ◌+◌, ◌<◌, ◌≤◌, List, [], ◌∷◌, length, take, map, get_or, refl, sym, subst, ⊎_elim, arith}
use Rattle.std.specs.Fn.{Called}
use denote.Param.Members.{Mut}
use Rattle.std.specs.Array.{IsFromFnResultFrom, IsFromFnResult}
use Rattle.std.proofs.lemmas.Bool.{cases_eq}

module _ {F B : Type 0} (g : Mut F (ℕ × Unit {0}) B) (P : ℕ → B → Type 0) (f : F) (gives : (i : ℕ) (y : B) (q : F) → Called g f (i, tt) y q → P i y × (q ≡ f)) (ys : List B) where
  each_from : (i n : ℕ) → IsFromFnResultFrom g f ys i n → (j : ℕ) → i ≤ j → j < i + n → (d : B) → P j (get_or ys j d)
  each_from i zero made j low high d = absurd (omega arith)
  each_from i (suc n) made j low high d =
      let call = gives i made.1 made.0 made.3 in
      ⊎_elim
      (λ (e : j ≡ i). subst (λ v. P v (get_or ys v d)) (sym e) (subst (P i) (sym (made.2.1 d)) call.0))
      (λ ne. each_from (i + 1) n (subst (λ v. IsFromFnResultFrom g v ys (i + 1) n) call.1 made.4) j (omega arith) (omega arith) d)
      (cases_eq j i)

  pub each_made : {n : ℕ} → IsFromFnResult g f ys n → (j : ℕ) → j < n → (d : B) → P j (get_or ys j d)
  each_made {n} made j small d = each_from 0 n made.each j (omega arith) (omega arith) d

-- the first elements are a map of a list, if the calls give that
module _ {X Y : Type 0} (h : X → Y) where
  taken : (xs : List X) (ys : List Y) → length xs ≤ length ys → ((k : ℕ) → k < length xs → (d : X) (e : Y) → get_or ys k e ≡ h (get_or xs k d)) → take (length xs) ys ≡ map h xs
  taken [] ys fits each = refl
  taken (x ∷ xs) [] fits each = absurd (omega arith)
  taken (x ∷ xs) (y ∷ ys) fits each =
      let head : y ≡ h x = each 0 (omega arith) x y in
      let tail = taken xs ys (omega arith) (λ k small d e. each (suc k) (omega arith) d e) in
      λ i. head i ∷ tail i

  pub mapped : {F : Type 0} (g : Mut F (ℕ × Unit {0}) Y) (f : F) (xs : List X) → ((i : ℕ) (y : Y) (q : F) → Called g f (i, tt) y q → (i < length xs → (d : X) → y ≡ h (get_or xs i d)) × (q ≡ f)) → (ys : List Y) {n : ℕ} → IsFromFnResult g f ys n → length xs ≤ n → take (length xs) ys ≡ map h xs
  mapped g f xs gives ys made fits =
      let long = made.long in
      taken xs ys (omega arith) (λ k small d e. each_made g (λ i y. i < length xs → (d : X) → y ≡ h (get_or xs i d)) f gives ys made k (omega arith) e small d)
