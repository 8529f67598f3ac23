-- Below `lead` 0.0, and from there on what the row's part from `skip` on holds.
use Rattle.std.proofs.Common.{◌≡◌, ℕ, ◌+◌, ◌-◌, ◌<◌, ◌≤◌, min, cond, ltb, List, map, length, get_or, sym, refl, ap, ◌∙◌, ⊎_elim, arith}
use lib.Ieee.{Float, nan}
use Rattle.std.proofs.lemmas.List.{drop-map, get_or-drop, get_or_past, length-map, length-take, take_rest}
use Rattle.std.proofs.lemmas.Bool.{cases_lt, cond-true, cond-false, lt-ltb, le-ltb}
use Rattle.sample.specs.Samples.{zero}
use Rattle.picture.proofs.Buffers.{two_parts}
use Rattle.picture.proofs.rows.write_from.Goals as goal

-- past the end of the row it is the same from wherever one counts
same_past : (values : List Float) (skip from k : ℕ) → from ≡ min skip (length values) → get_or values (from + k) zero ≡ get_or values (skip + k) zero
same_past values skip from k e =
    ⊎_elim (λ (l : skip < length values). ap (λ i. get_or values i zero) (omega arith))
    (λ (l : length values ≤ skip). get_or_past values (from + k) zero (omega arith) ∙ sym (get_or_past values (skip + k) zero (omega arith)))
    (cases_lt skip (length values))

pub returns : goal.returns
returns g c =
    let value : g.row.T.Denot → Float = λ s. g.T.Sample.value s c.args.full in
    let row = c.args.row.now in
    let values : List Float = map value row in
    let lead = c.args.lead in
    let from = c.min-from.result in
    two_parts (λ k. cond (ltb k lead) zero (get_or values (c.args.skip + (k - lead)) zero)) c.args.into.now c.fill.new.self c.write_whole.new.into
    c.min-start.result (omega arith) c.fill.ensures.len c.write_whole.auto.into
    (λ k h. c.fill.ensures.clones k nan (simp length-take (omega arith)) refl ∙ sym (cond-true (ltb k lead) zero _ (lt-ltb k lead (omega arith))))
    (λ k h l.
    c.write_whole.ensures k h
    ∙ ap (λ l. get_or (map value l) k zero) (take_rest row from)
    ∙ ap (λ l. get_or l k zero) (sym (drop-map value from row))
    ∙ get_or-drop from values k zero
    ∙ same_past values c.args.skip from k (simp length-map (omega arith))
    ∙ ap (λ i. get_or values i zero) (omega arith)
    ∙ sym (cond-false (ltb (c.min-start.result + k) lead) zero _ (le-ltb _ lead (omega arith))))
