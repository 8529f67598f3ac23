-- The number of a sample that there is, with the columns and rows of its position, is far below the limit.
use Rattle.std.proofs.Common.{◌≡◌, ℕ, ◌+◌, ◌*◌, ◌^◌, ◌<◌, ap, ◌∙◌, arith, w32, SFits}
use Rattle.std.proofs.lemmas.Nat.{mul-add-lt, mul-le}
use Rattle.std.proofs.lemmas.Int.{to_z-of_z}
use Rattle.std.proofs.lemmas.Bool.{and_from, lt-ltb}
use Rattle.plate.specs.Format.{sample_number}
use Rattle.plate.proofs.samples.number_of.Goals as goal

below : (channels width height channel column row : ℕ) → channels < 2 ^ 8 → width < 2 ^ 16 → height < 2 ^ 16 → channel < channels → column < width → row < height → sample_number width height channel column row < 2 ^ 48
below channels width height channel column row few wide high c x y =
    let rows = mul-add-lt channel height row channels c y in
    let samples = mul-add-lt (channel * height + row) width column (height * channels) rows x in
    let most = mul-le height channels (2 ^ 16) (2 ^ 8) (omega arith) (omega arith) in
    let all = mul-le width (height * channels) (2 ^ 16) (2 ^ 24) (omega arith) (omega arith) in
    omega arith

pub returns : goal.returns
returns c =
    let fx : SFits w32 c.args.x = c.ranges.x in
    let fy : SFits w32 c.args.y = c.ranges.y in
    let across = simp to_z-of_z at c.in_ok-column.ensures in
    let down = simp to_z-of_z at c.in_ok-row.ensures in
    let channel : c.args.channel < c.args.channels = omega arith in
    let wide = c.from-3.ensures in
    let high = c.from-2.ensures in
    let number : (c.args.channel * c.from-2.result + c.in_ok-row.row) * c.from-3.result + c.in_ok-column.column ≡ sample_number c.args.width c.args.height c.args.channel c.in_ok-column.column c.in_ok-row.row = cc in (
      and_from _ _ (lt-ltb _ _ channel) (and_from _ _ across.0 down.0),
      number
          ∙ ap (λ k. sample_number c.args.width c.args.height c.args.channel k c.in_ok-row.row) across.2
          ∙ ap (sample_number c.args.width c.args.height c.args.channel _) down.2,
      rw number (below c.args.channels c.args.width c.args.height c.args.channel c.in_ok-column.column c.in_ok-row.row (omega arith) (omega arith) (omega arith) channel across.1 down.1),
    )
