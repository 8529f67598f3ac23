-- Buffers that are filled in two parts.
use Rattle.std.proofs.Common.{◌≡◌, ℕ, ◌+◌, ◌-◌, ◌<◌, ◌≤◌, List, ◌++◌, length, get_or, take, drop, ap, ◌∙◌, ⊎_elim, arith}
use borrow.Rule.Slice.PartMut.{put_mid, post_of}
use lib.Ieee.{Float, nan}
use Rattle.std.proofs.lemmas.List.{get_or_append_left, get_or-append_right, get_or-take, length-append, length-drop, length-take}
use Rattle.std.proofs.lemmas.Bool.{cases_lt}

-- after a write to the first n places, and to those from n on
module _ (f : ℕ → Float) (xs first second : List Float) (n : ℕ) where
  abbrev pub halfway : List Float
  halfway = first ++ post_of 0 n xs

  abbrev pub upper : List Float
  upper = take (length halfway - n) (drop n halfway)

  pub two_parts : n ≤ length xs → length first ≡ length (take n xs) → length second ≡ length upper → ((k : ℕ) → k < n → get_or first k nan ≡ f k) → ((k : ℕ) → k < length upper → n + k < length xs → get_or second k nan ≡ f (n + k)) → (k : ℕ) → k < length xs → get_or (put_mid n (length halfway - n) halfway second) k nan ≡ f k
  two_parts fits one two low high k h =
      let whole : length first ≡ n = one ∙ simp length-take (omega arith) in
      let same : length halfway ≡ length xs = simp (length-append, length-drop) (omega arith) in
      let rest : length upper ≡ length xs - n = simp (length-take, length-drop) (omega arith) in
      ⊎_elim
      (λ (l : k < n).
      get_or_append_left (take n halfway) _ nan k (simp length-take (omega arith))
      ∙ get_or-take n halfway k nan l
      ∙ get_or_append_left first _ nan k (omega arith)
      ∙ low k l)
      (λ (g : n ≤ k).
      get_or-append_right (take n halfway) _ n k nan (simp length-take (omega arith)) g
      ∙ get_or_append_left second _ nan (k - n) (omega arith)
      ∙ high (k - n) (omega arith) (omega arith)
      ∙ ap f (omega arith))
      (cases_lt k n)
