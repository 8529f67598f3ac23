-- The array is the store's samples: it has the name that the store was made with.
use mathlib.Core.Path.{◌≡◌, sym, ap, ◌∙◌}
use mathlib.Core.Bool.{true}
use native.Mathlib.Omega.{arith}
use Rattle.sample.specs.Samples.{one}
use lib.Ieee.{nan}
use lib.ListN.{get_or}
use Rattle.store.specs.Held.{Held, inside}
use Rattle.planar.specs.Make.{planar_of}
use Rattle.store.proofs.Changes.{at_after}
use Rattle.lending.proofs.own_samples.Goals as goal

pub returns : goal.returns
returns c =
    let made = c.new-store.ensures.made in
    let wrote = c.write_one.ensures in
    let named = sym (wrote.lent ∙ ap (λ (h : Held). h.lent) made) in
    let columns = wrote.columns ∙ ap (λ (h : Held). h.columns) made in
    let rows = wrote.rows ∙ ap (λ (h : Held). h.rows) made in
    let inner : inside (planar_of c.new-store.result) 0 1 0 ≡ true = ap (λ (h : Held). inside h 0 1 0) made in
    let place : get_or c.write_one.new.store.samples.now 1 nan ≡ one = rw (columns, rows) at (at_after wrote 0 1 0 inner) in
    grind arith
