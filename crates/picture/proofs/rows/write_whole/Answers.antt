-- Up to the shorter length the row, and past it, where the row has ended, 0.0.
use Rattle.std.proofs.Common.{map, get_or, sym, refl, ap, ◌∙◌, arith}
use lib.Ieee.{Float, nan}
use Rattle.std.proofs.lemmas.List.{get_or_default, get_or_past, get_or-take, length-map, take-map}
use Rattle.sample.specs.Samples.{zero}
use Rattle.picture.proofs.Buffers.{two_parts}
use Rattle.picture.proofs.rows.write_whole.Goals as goal

pub returns : goal.returns
returns g c =
    let value : g.row.T.Denot → Float = λ s. g.T.Sample.value s c.args.full in
    let row = c.args.row.now in
    let n = c.min-count.result in
    two_parts (λ k. get_or (map value row) k zero) c.args.into.now c.convert.new.into c.fill.new.self n (omega arith) c.convert.auto.into
    c.fill.ensures.len
    (λ k h.
    ap (λ l. get_or l k nan) (c.convert.ensures ∙ sym (take-map value n row))
    ∙ get_or-take n (map value row) k nan (omega arith)
    ∙ get_or_default (map value row) k nan zero (simp length-map (omega arith)))
    (λ k h l. c.fill.ensures.clones k nan h refl ∙ sym (get_or_past (map value row) _ zero (simp length-map (omega arith))))
