-- What is inside a store, and what is read there and elsewhere.
use Rattle.std.proofs.Common.{◌≡◌, ℕ, ◌+◌, ◌<◌, ◌≤◌, true, false, arith}
use Rattle.std.proofs.lemmas.Bool.Decides.{nat_tests}
use Rattle.sample.specs.Samples.{zero}
use Rattle.store.specs.Held.{Held, inside, seen, in_run}

-- a place inside is below each of the store's sizes
pub inside_parts : (h : Held) (p c r : ℕ) → inside h p c r ≡ true → (p < h.planes) × (c < h.columns) × (r < h.rows)
inside_parts h p c r e = (grind (arith, nat_tests), grind (arith, nat_tests), grind (arith, nat_tests))

-- a place in a run is in its plane and its row, and between its ends
pub in_run_lem : (p c r n q k s : ℕ) → in_run p c r n q k s ≡ true → (q ≡ p) × (s ≡ r) × (c ≤ k) × (k < c + n)
in_run_lem p c r n q k s e = (grind (arith, nat_tests), grind (arith, nat_tests), grind (arith, nat_tests), grind (arith, nat_tests))

-- outside 0.0 is read
pub seen_outside : (h : Held) (p c r : ℕ) → inside h p c r ≡ false → seen h p c r ≡ zero
seen_outside h p c r e = rw e
