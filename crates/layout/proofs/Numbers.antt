-- Numbers of three digits, (a * B + b) * D + d with a < A, b < B and d < D: the numbers of places.
use Rattle.std.proofs.Common.{◌≡◌, ℕ, ◌+◌, ◌*◌, ◌/◌, ◌%◌, ◌<◌, ◌≤◌, sym, ap, ◌∙◌, arith}
use lib.Arith.{digits_lt}
use Rattle.std.proofs.lemmas.Nat.{div-mul-add, mod-mul-add, mul-le}

pub number_below : {a A b B d D : ℕ} → a < A → b < B → d < D → (a * B + b) * D + d < A * B * D
number_below ha hb hd = digits_lt (digits_lt ha hb) hd

-- what the first two digits write is no more than the whole number
pub high_le : (a b B d D : ℕ) → d < D → a * B + b ≤ (a * B + b) * D + d
high_le a b B d D hd = omega (arith, mul-le (a * B + b) 1 (a * B + b) D (omega arith) (omega arith))

-- equal numbers have equal digits: of two digits, and of three
two_same : (a a' : ℕ) {b b' B : ℕ} → b < B → b' < B → a * B + b ≡ a' * B + b' → (a ≡ a') × (b ≡ b')
two_same a a' {b} {b'} {B} hb hb' e = (
  sym (div-mul-add a B b hb) ∙ ap (λ n. n / B) e ∙ div-mul-add a' B b' hb',
  sym (mod-mul-add a B b hb) ∙ ap (λ n. n % B) e ∙ mod-mul-add a' B b' hb',
)

pub digits_same : (a a' : ℕ) {b b' B d d' D : ℕ} → b < B → b' < B → d < D → d' < D → (a * B + b) * D + d ≡ (a' * B + b') * D + d' → (a ≡ a') × (b ≡ b') × (d ≡ d')
digits_same a a' {b} {b'} {B} hb hb' hd hd' e =
    let low = two_same (a * B + b) (a' * B + b') hd hd' e in
    let high = two_same a a' hb hb' low.0 in
    (high.0, high.1, low.1)
