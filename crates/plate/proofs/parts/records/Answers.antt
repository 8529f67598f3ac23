-- One more record, of at most nine.
use Rattle.std.proofs.Common.{◌≡◌, length, sym, ap, ◌∙◌, lit<, arith}
use Rattle.std.proofs.lemmas.List.FromFn.{length-map-range_with_len, map-range_with_len_more}
use Rattle.plate.specs.Format.{record_at}
use Rattle.plate.proofs.parts.records.Goals as goal

pub push-requires : goal.push-requires
push-requires c =
    let long : length c.loop-k.records.items ≡ c.loop-k.k = ap length c.loop-k.invariant ∙ length-map-range_with_len (record_at c.args.bytes.now) 0 c.loop-k.k in
    (lit< tt, rw long (omega arith))

pub loop-k-preserved : goal.loop-k-preserved
loop-k-preserved c =
    rw (c.push.ensures.items, c.loop-k.invariant, c.record_at.ensures) (sym (map-range_with_len_more (record_at c.args.bytes.now) 0 c.loop-k.k c.loop-k.k (omega arith)))
