-- Columns of a row whose samples lie a stride apart: how far they reach, and what stands where after a write to some of them.
use Rattle.std.proofs.Common.{◌≡◌, ℕ, ◌+◌, ◌-◌, ◌*◌, ◌/◌, ◌<◌, ◌≤◌, List, length, get_or, set, sym, ap, ◌∙◌, ⊎_elim, arith, rules}
use lib.Ieee.{Float, nan}
use borrow.Rule.Slice.PartMut.{put_mid}
use Rattle.std.proofs.Math.Nat.{mul-div_cancel}
use Rattle.std.proofs.lemmas.List.{places, get_or-set_same, get_or-set_other}
use Rattle.std.proofs.lemmas.Bool.{cases_lt}
use Rattle.layout.specs.Strides.{reaches, IsWritten}

-- side by side they reach as far as there are of them
pub reach_one : (limit n : ℕ) → reaches limit 1 n → n ≤ limit
reach_one limit n room = grind (arith, room (n - 1))

-- no two columns share a sample
columns_apart : (stride c d : ℕ) → 0 < stride → c * stride ≡ d * stride → c ≡ d
columns_apart stride c d wide e = sym (mul-div_cancel c wide) ∙ ap (λ n. n / stride) e ∙ mul-div_cancel d wide

-- a run in one piece, written at once
pub written_whole : (xs zs : List Float) (c n : ℕ) → length zs ≡ n → c + n ≤ length xs → IsWritten xs (put_mid c n xs zs) c 1 zs n
written_whole xs zs c n long room = record {
  same_length = search (rules, places);
  written = λ k h. grind (arith, places);
  others = λ m no. ⊎_elim (λ below. grind (arith, places)) (λ above. ⊎_elim (λ low. absurd (no (m - c) (omega arith) (omega arith))) (λ high. grind (arith, places)) (cases_lt m (c + n))) (cases_lt m c);
}

-- one more sample, after those before it
pub written_next : {xs ys : List Float} {c stride : ℕ} {zs : List Float} {k : ℕ} → 0 < stride → (c + k) * stride < length xs → IsWritten xs ys c stride zs k → IsWritten xs (set ys ((c + k) * stride) (get_or zs k nan)) c stride zs (k + 1)
written_next {xs} {ys} {c} {stride} {zs} {k} wide room sofar = record {
  same_length = search (rules, places) ∙ sofar.same_length;
  written = λ j h. ⊎_elim
      (λ before. get_or-set_other ys ((c + k) * stride) ((c + j) * stride) (get_or zs k nan) nan (λ e. let same = columns_apart stride (c + j) (c + k) wide e in omega arith) ∙ sofar.written j before)
      (λ after. let same : j ≡ k = omega arith in rw same (get_or-set_same ys ((c + k) * stride) (get_or zs k nan) nan (omega (arith, sofar.same_length))))
      (cases_lt j k);
  others = λ m no. get_or-set_other ys ((c + k) * stride) m (get_or zs k nan) nan (no k (omega arith)) ∙ sofar.others m (λ j h. no j (omega arith));
}
