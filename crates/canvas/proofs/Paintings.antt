-- What open, patch and blend draw are the paintings of the definition.
use Rattle.std.proofs.Common.{◌≡◌, ℕ, ◌+◌, Bool, true, false, cond, not, ◌&&◌, ◌||◌, eqb, ltb, leb, List, map, get_or, ℤ, pos, ◌+ℤ◌, ◌-ℤ◌, is_some, Some, None, Option, sym, refl, ap, ◌∙◌, ⊎_elim, arith}
use lib.Ieee.{Float}
use Rattle.std.proofs.lemmas.Int.{ints}
use Rattle.std.proofs.lemmas.Bool.Decides.{nat_tests}
use Rattle.std.proofs.lemmas.Bool.{and_parts, and_from, and_left, and_right, both_ways, false≢true, true≢false, not-true, not_from_true, not_from_false, or_cases, or_from, or_parts, eqb-true, cond-true, cond-false, lt-ltb}
use Rattle.sample.specs.Samples.{zero}
use Rattle.region.specs.declared.Region.{Region}
use Rattle.region.specs.Positions.{along, has}
use Rattle.picture.specs.Meaning.{Meaning, value_at}
use Rattle.store.specs.Held.{Held, seen, Changed}
use Rattle.machine.specs.declared.calls.Header.{Header}
use Rattle.machine.specs.declared.calls.PatchRecord.{PatchRecord}
use Rattle.machine.specs.declared.calls.Rectangle.{Rectangle}
use Rattle.machine.specs.Calls.{Patch}
use Rattle.machine.specs.Checks.{Setup, channels_of, patch_info, record_of}
use Rattle.machine.specs.Machine.{covered, drawn, on_canvas, patch_meets, canvas_of, placed, copied, patched, blended, by_patch, operands, no_patch_info}
use Rattle.blend.specs.declared.records.BlendMode.{BlendMode}
use Rattle.blend.specs.declared.records.PatchBlendingInfo.{PatchBlendingInfo}
use Rattle.blend.specs.declared.records.BlendMode.TheVariants.{Skip}
use Rattle.blend.specs.declared.records.BlendingInfo.{BlendingInfo}
use Rattle.blend.specs.Modes.{any_extra}
use Rattle.blend.specs.Tables.{frame_mode, patch_mode, is_own, formula}
use Rattle.views.specs.View.{Opened, image_of, frame_in, slots_in, frame_slot}
use Rattle.views.specs.Step.{opens, patches, fills, Painted}
use Rattle.drawing.specs.declared.layers.Layer.{Layer}
use Rattle.drawing.specs.declared.layers.Layer.TheVariants.{Blank}
use Rattle.drawing.specs.declared.strokes.Stroke.{Stroke}
use Rattle.drawing.specs.declared.strokes.Drawing.{Drawing}
use Rattle.walk.specs.declared.parts.Area.{Area}
use Rattle.walk.specs.Rectangles.{in_area}
use Rattle.walk.proofs.Walks.{walked_then}
use Rattle.drawing.specs.Local.{drawn_local}
use Rattle.drawing.specs.Layers.{layer_at, layer_operands, stroke_or, touches, drawn_at}
use Rattle.canvas.specs.Plans.{Plan, Planned, slot_layer, source_layer, sheet_layer, open_plan, patch_plan, info_of, blend_plan, keep_plan, stays}
use Rattle.canvas.proofs.Alphas.{frame_stroke, patch_stroke, patch_keeps}
use Rattle.canvas.proofs.Planes.{own, channel_at, channel_below, plane_back, touch_plan, drawn_plan, painted_by}
use Rattle.canvas.proofs.Samples.{across, down, source_shows, frame-shows}

-- a picture's position, counted from the first column or from the canvas's own coordinates
placed_at : (corner origin place from : ℤ) (c : ℕ) → (((corner -ℤ origin) +ℤ (from -ℤ place)) +ℤ pos c) ≡ (((corner +ℤ pos c) -ℤ (origin +ℤ place)) +ℤ from)
placed_at corner origin place from c = omega (arith, ints)

copied_at : (corner origin : ℤ) (c : ℕ) → (((corner -ℤ origin) +ℤ (pos 0 -ℤ pos 0)) +ℤ pos c) ≡ (((corner +ℤ pos c) -ℤ origin) +ℤ pos 0)
copied_at corner origin c = omega (arith, ints)

-- a plane of another slot is not touched
untouched : {s : Setup} {k : ℕ} {plan : Plan} {new : Layer} {d : Drawing} → Planned s k plan new d → (p : ℕ) (area : Bool) → own s k p ≡ false → (touches d p && area) ≡ false
untouched {s} {k} {plan} by p area other = and_left _ _ (touch_plan by p ∙ and_left _ _ other)

turned : (a b : Bool) → (a && b) ≡ (b && a)
turned true true = refl
turned true false = refl
turned false true = refl
turned false false = refl

-- tests that failed as a whole fail in the part that is left
none_if : (a b : Bool) → a ≡ true → (a && b) ≡ false → b ≡ false
none_if true b t f = f
none_if false b t f = absurd (false≢true t)

off_if : (a b : Bool) → b ≡ true → (a && b) ≡ false → a ≡ false
off_if true true t f = f
off_if true false t f = absurd (false≢true t)
off_if false b t f = refl

module _ (s : Setup) (hd : Header) (m : Meaning) {d : Drawing} {before after : Held} (area : ℕ → ℕ → Bool) where
  pub picture_copied :
      Planned s frame_slot open_plan (sheet_layer s.region hd (pos 0) (pos 0) (pos 0) (pos 0)) d
      → ((c r : ℕ) → area c r ≡ (has s.region (across s c) (down s r) && covered hd m.region (across s c -ℤ hd.left) (down s r -ℤ hd.top)))
      → Changed before after (λ p c r. touches d p && area c r) (drawn_at d m before)
      → Painted s (opens s hd (image_of m)) before after
  picture_copied by part change =
      painted_by s frame_slot (drawn s hd m.region) (copied s hd (image_of m)) change (λ p c r other. untouched by p (area c r) other)
      (λ p c r mine w.
      let ch = channel_at s frame_slot p in
      let here = on_part c r (and_parts (touches d p) (area c r) w).1 in
      let below = lt-ltb ch (channels_of s) (channel_below s frame_slot p mine) in
      let shown : drawn s hd m.region ch (across s c) (down s r) ≡ true = and_from (on_canvas s ch (across s c) (down s r)) _ (and_from (ltb ch (channels_of s)) _ below here.0) here.1 in (
        shown,
        drawn_plan by m before p c r mine
            ∙ (λ i. value_at m ch (copied_at s.region.left hd.left c i) (copied_at s.region.top hd.top r i))
            ∙ sym (cond-true (drawn s hd m.region ch (across s c) (down s r)) _ zero shown),
      ))
      (λ p c r _ mine w shown.
      let ways = and_parts (on_canvas s (channel_at s frame_slot p) (across s c) (down s r)) (covered hd m.region (across s c -ℤ hd.left) (down s r -ℤ hd.top)) shown in
      let there = part c r ∙ and_from (has s.region (across s c) (down s r)) _ (and_parts (ltb (channel_at s frame_slot p) (channels_of s)) _ ways.0).1 ways.1 in
      absurd (both_ways (touches d p && area c r) w (and_from (touches d p) _ (touch_plan by p ∙ and_from (own s frame_slot p) true mine refl) there)))
    where
      on_part : (c r : ℕ) → area c r ≡ true → (has s.region (across s c) (down s r) ≡ true) × (covered hd m.region (across s c -ℤ hd.left) (down s r -ℤ hd.top) ≡ true)
      on_part c r t = and_parts _ _ (sym (part c r) ∙ t)

abbrev pub patch_of : Rectangle → ℤ → ℤ → List PatchRecord → Meaning → Patch
patch_of rect px py records m = record { rectangle = rect; x = px; y = py; records = records; sheet = image_of m }

-- a position of the canvas that the frame covers and the patch meets
abbrev Met : Setup → Header → Region → Patch → (c r : ℕ) → Type 0
Met s hd region p c r =
    (has s.region (across s c) (down s r) ≡ true)
    × (covered hd region (across s c -ℤ hd.left) (down s r -ℤ hd.top) ≡ true)
    × (patch_meets hd p (across s c) (down s r) ≡ true)

module _ (s : Setup) (o : Opened) (m : Meaning) (rect : Rectangle) (px py : ℤ) (records : List PatchRecord) (d : Drawing) (before : Held) where
  -- at a position that the patch meets, the formula reads the frame as it stood and the sheet
  patch_operands :
      (c r : ℕ)
      → has s.region (across s c) (down s r) ≡ true
      → covered o.header o.region (across s c -ℤ o.header.left) (down s r -ℤ o.header.top) ≡ true
      → (ch alpha : ℕ)
      → layer_operands (slot_layer s frame_slot) (sheet_layer s.region o.header px py rect.left rect.top) m before ch alpha c r
      ≡ operands (frame_in s before o).canvas (placed (image_of m) rect.left rect.top (o.header.left +ℤ px) (o.header.top +ℤ py)) alpha ch (across s c) (down s r)
  patch_operands c r on cover ch alpha =
      let old : (j : ℕ) → layer_at (slot_layer s frame_slot) m before j c r ≡ (frame_in s before o).canvas j (across s c) (down s r) =
      frame-shows s before m c r on o.header o.region cover in
      let column = placed_at s.region.left o.header.left px rect.left c in
      let row = placed_at s.region.top o.header.top py rect.top r in
      λ i.
      record {
        base = old ch i;
        new = value_at m ch (column i) (row i);
        base_alpha = old alpha i;
        new_alpha = value_at m alpha (column i) (row i);
      }

  pub patch_drawn :
      (area : ℕ → ℕ → Bool) (after : Held)
      → Planned s frame_slot (patch_plan s records) (sheet_layer s.region o.header px py rect.left rect.top) d
      → ((c r : ℕ)
      → area c r
      ≡ (has s.region (across s c) (down s r)
      && (covered o.header o.region (across s c -ℤ o.header.left) (down s r -ℤ o.header.top)
      && patch_meets o.header (patch_of rect px py records m) (across s c) (down s r))))
      → Changed before after (λ p c r. touches d p && area c r) (drawn_at d m before)
      → Painted s (patches s (frame_in s before o) (patch_of rect px py records m)) before after
  patch_drawn area after by part change =
      painted_by s frame_slot spot (patched s (frame_in s before o) pt) change (λ p c r other. untouched by p (area c r) other)
      (λ p c r mine w.
      let ch = channel_at s frame_slot p in
      let ways = and_parts (touches d p) (area c r) w in
      let here = on_part c r ways.1 in
      let some = (and_parts (own s frame_slot p) (is_some (patch_plan s records ch)) (sym (touch_plan by p) ∙ ways.0)).1 in
      let shown = on_spot p c r mine here in (
        shown,
        drawn_plan by m before p c r mine
            ∙ patch_stroke (slot_layer s frame_slot) sheet s.colors m before ch c r (info ch).clamp s.kinds (info ch).alpha_channel (info ch).mode
            (is_own ch s.colors (info ch).alpha_channel) some
            ∙ ap (by_patch (mode ch)) (patch_operands c r here.0 here.1 ch (s.colors + (info ch).alpha_channel))
            ∙ sym (cond-true (spot ch (across s c) (down s r)) _ _ shown),
      ))
      (λ p c r _ mine w shown.
      let ch = channel_at s frame_slot p in
      let here = on_area p c r shown in
      let there = part c r ∙ and_from (has s.region (across s c) (down s r)) _ here.0 (and_from (covered o.header o.region _ _) _ here.1 here.2) in
      let none = none_if (own s frame_slot p) (is_some (patch_plan s records ch)) mine (sym (touch_plan by p) ∙ off_if (touches d p) (area c r) there w) in
      cond-true (spot ch (across s c) (down s r)) _ _ shown
      ∙ sym (ap (by_patch (mode ch)) (patch_operands c r here.0 here.1 ch (s.colors + (info ch).alpha_channel)))
      ∙ patch_keeps (slot_layer s frame_slot) sheet m before ch (s.colors + (info ch).alpha_channel) c r (mode ch) none
      ∙ cond-true (ltb ch (channels_of s)) _ zero (lt-ltb ch (channels_of s) (channel_below s frame_slot p mine))
      ∙ ap (λ q. seen before q c r) (plane_back s frame_slot p mine))
    where
      pt : Patch
      pt = patch_of rect px py records m

      sheet : Layer
      sheet = sheet_layer s.region o.header px py rect.left rect.top

      info : ℕ → PatchBlendingInfo
      info ch = record_of no_patch_info s.colors (map patch_info records) ch

      mode : ℕ → Option BlendMode
      mode ch = patch_mode ch s.colors (info ch) s.kinds

      spot : ℕ → ℤ → ℤ → Bool
      spot ch x y = drawn s o.header o.region ch x y && patch_meets o.header pt x y

      on_part :
          (c r : ℕ)
          → area c r ≡ true
          → Met s o.header o.region pt c r
      on_part c r t =
          let ways = and_parts (has s.region (across s c) (down s r)) _ (sym (part c r) ∙ t) in
          let inner = and_parts (covered o.header o.region (across s c -ℤ o.header.left) (down s r -ℤ o.header.top)) _ ways.1 in
          (ways.0, inner.0, inner.1)

      on_area :
          (p c r : ℕ)
          → spot (channel_at s frame_slot p) (across s c) (down s r) ≡ true
          → Met s o.header o.region pt c r
      on_area p c r shown =
          let ways = and_parts (drawn s o.header o.region (channel_at s frame_slot p) (across s c) (down s r)) _ shown in
          let inner = and_parts (on_canvas s (channel_at s frame_slot p) (across s c) (down s r)) _ ways.0 in
          ((and_parts (ltb (channel_at s frame_slot p) (channels_of s)) _ inner.0).1, inner.1, ways.1)

      on_spot :
          (p c r : ℕ)
          → own s frame_slot p ≡ true
          → Met s o.header o.region pt c r
          → spot (channel_at s frame_slot p) (across s c) (down s r) ≡ true
      on_spot p c r mine here =
          let ch = channel_at s frame_slot p in
          and_from (drawn s o.header o.region ch (across s c) (down s r)) _
          (and_from (on_canvas s ch (across s c) (down s r)) _
          (and_from (ltb ch (channels_of s)) _ (lt-ltb ch (channels_of s) (channel_below s frame_slot p mine)) here.0) here.1)
          here.2

-- ---- blend

-- the canvas has the columns and rows of its region
on_tile : (from : ℤ) (size c : ℕ) → along from size (from +ℤ pos c) ≡ (leb 0 c && ltb c size)
on_tile from size c = grind (arith, ints, nat_tests)

abbrev pub whole : Setup → Area
whole s = record { left = 0; right = s.region.width; top = 0; bottom = s.region.height }

pub tile_area : (s : Setup) (c r : ℕ) → in_area (whole s) c r ≡ has s.region (across s c) (down s r)
tile_area s c r =
    turned (leb 0 r && ltb r s.region.height) (leb 0 c && ltb c s.region.width)
    ∙ (λ i. sym (on_tile s.region.left s.region.width c) i && sym (on_tile s.region.top s.region.height r) i)

-- what is kept is the target's own sample, in a filled slot that is the source
kept_own : (f e : Bool) (x : Stroke) → is_some (cond (cond f e false) None (Some x)) ≡ false → (f ≡ true) × (e ≡ true)
kept_own true true x none = (refl, refl)
kept_own true false x none = absurd (true≢false none)
kept_own false e x none = absurd (true≢false none)

-- where something is drawn it is not kept
drawn_not_kept : (b : Bool) (x : Stroke) (new : Layer) (colors : ℕ) (m : Meaning) (h : Held) (ch c r : ℕ) → is_some (cond b None (Some x)) ≡ true → stroke_or (cond b None (Some x)) new colors m h ch c r ≡ stroke_or (Some x) new colors m h ch c r
drawn_not_kept true x new colors m h ch c r some = absurd (false≢true some)
drawn_not_kept false x new colors m h ch c r some = refl

module _ (s : Setup) (o : Opened) (filled : List Bool) (m : Meaning) (d k : Drawing) (before : Held) where
  -- each channel reads its source and the open frame
  blend_operands :
      (c r : ℕ)
      → has s.region (across s c) (down s r) ≡ true
      → covered o.header o.region (across s c -ℤ o.header.left) (down s r -ℤ o.header.top) ≡ true
      → (source ch alpha : ℕ)
      → layer_operands (source_layer s filled source) (slot_layer s frame_slot) m before ch alpha c r
      ≡ operands (canvas_of (slots_in s filled before source)) (frame_in s before o).canvas alpha ch (across s c) (down s r)
  blend_operands c r on cover source ch alpha =
      let old = source_shows s before m c r on filled source in
      let new : (j : ℕ) → layer_at (slot_layer s frame_slot) m before j c r ≡ (frame_in s before o).canvas j (across s c) (down s r) =
      frame-shows s before m c r on o.header o.region cover in
      λ i. record { base = old ch i; new = new ch i; base_alpha = old alpha i; new_alpha = new alpha i }

  pub frame-blended :
      (area : ℕ → ℕ → Bool) (after : Held)
      → Planned s o.header.target (blend_plan s o filled) (slot_layer s frame_slot) d
      → Planned s o.header.target (keep_plan s o filled) Blank k
      → ((c r : ℕ)
      → area c r
      ≡ (has s.region (across s c) (down s r) && covered o.header o.region (across s c -ℤ o.header.left) (down s r -ℤ o.header.top)))
      → (middle : Held)
      → Changed before middle (λ p c r. touches d p && area c r) (drawn_at d m before)
      → Changed middle after (λ p c r. touches k p && (in_area (whole s) c r && not (area c r))) (drawn_at k m middle)
      → Painted s (fills s (slots_in s filled before) (frame_in s before o)) before after
  frame-blended area after by keeps part middle one next =
      painted_by s target (on_canvas s) (blended s (slots_in s filled before) (frame_in s before o))
      (walked_then area rest (λ c r t. not-true (area c r) (and_parts (in_area (whole s) c r) _ t).1) (touches d) (touches k) (drawn_at d m) (drawn_at k m) (drawn_local k m) one next)
      (λ p c r other. or_from _ _ (untouched by p (area c r) other) (untouched keeps p (rest c r) other))
      (λ p c r mine w. ⊎_elim (λ t. inside_part p c r mine (and_parts (touches d p) (area c r) t).1) (λ t. outside_part p c r mine t) (or_cases (touches d p && area c r) (touches k p && rest c r) w))
      (λ p c r inner mine w shown. stays_there p c r mine w shown)
    where
      target : ℕ
      target = o.header.target

      rest : ℕ → ℕ → Bool
      rest c r = in_area (whole s) c r && not (area c r)

      info : ℕ → BlendingInfo
      info ch = info_of s o ch

      old : ℕ → ℕ → ℕ → Float
      old ch c r = canvas_of (slots_in s filled before (info ch).source) ch (across s c) (down s r)

      made : ℕ → ℕ → ℕ → Float
      made p c r = cond (touches k p && rest c r) (drawn_at k m before p c r) (drawn_at d m before p c r)

      goal : ℕ → ℕ → ℕ → Float
      goal ch c r = blended s (slots_in s filled before) (frame_in s before o) ch (across s c) (down s r)

      below : (p : ℕ) → own s target p ≡ true → ltb (channel_at s target p) (channels_of s) ≡ true
      below p mine = lt-ltb (channel_at s target p) (channels_of s) (channel_below s target p mine)

      -- off the drawn part the goal is the source's sample
      goal_off :
          (ch c r : ℕ)
          → on_canvas s ch (across s c) (down s r) ≡ true
          → covered o.header o.region (across s c -ℤ o.header.left) (down s r -ℤ o.header.top) ≡ false
          → goal ch c r ≡ old ch c r
      goal_off ch c r on off =
          cond-true (on_canvas s ch (across s c) (down s r)) _ zero on
          ∙ cond-false (drawn s o.header o.region ch (across s c) (down s r)) _ _ (and_right (on_canvas s ch (across s c) (down s r)) _ off)

      inside_part :
          (p c r : ℕ)
          → own s target p ≡ true
          → area c r ≡ true
          → (on_canvas s (channel_at s target p) (across s c) (down s r) ≡ true) × (made p c r ≡ goal (channel_at s target p) c r)
      inside_part p c r mine t =
          let ch = channel_at s target p in
          let here = and_parts (has s.region (across s c) (down s r)) _ (sym (part c r) ∙ t) in
          let on = and_from (ltb ch (channels_of s)) _ (below p mine) here.0 in
          let shown = and_from (on_canvas s ch (across s c) (down s r)) _ on here.1 in (
            on,
            cond-false (touches k p && rest c r) _ _ (and_right (touches k p) _ (and_right (in_area (whole s) c r) _ (not_from_true (area c r) t)))
                ∙ drawn_plan by m before p c r mine
                ∙ frame_stroke (source_layer s filled (info ch).source) (slot_layer s frame_slot) s.colors m before ch c r (info ch).clamp s.kinds (info ch).alpha_channel
                (info ch).mode (any_extra s.kinds) (is_own ch s.colors (info ch).alpha_channel)
                ∙ ap (formula (frame_mode ch s.colors (info ch) s.kinds)) (blend_operands c r here.0 here.1 (info ch).source ch (s.colors + (info ch).alpha_channel))
                ∙ sym (cond-true (on_canvas s ch (across s c) (down s r)) _ zero on ∙ cond-true (drawn s o.header o.region ch (across s c) (down s r)) _ _ shown),
          )

      outside_part :
          (p c r : ℕ)
          → own s target p ≡ true
          → (touches k p && rest c r) ≡ true
          → (on_canvas s (channel_at s target p) (across s c) (down s r) ≡ true) × (made p c r ≡ goal (channel_at s target p) c r)
      outside_part p c r mine t =
          let ch = channel_at s target p in
          let ways = and_parts (touches k p) (rest c r) t in
          let spot = and_parts (in_area (whole s) c r) _ ways.1 in
          let tile = sym (tile_area s c r) ∙ spot.0 in
          let off = none_if (has s.region (across s c) (down s r)) _ tile (sym (part c r) ∙ not-true (area c r) spot.1) in
          let on = and_from (ltb ch (channels_of s)) _ (below p mine) tile in
          let some = (and_parts (own s target p) (is_some (keep_plan s o filled ch)) (sym (touch_plan keeps p) ∙ ways.0)).1 in (
            on,
            cond-true (touches k p && rest c r) _ _ t
                ∙ drawn_plan keeps m before p c r mine
                ∙ drawn_not_kept (stays s o filled ch) (record { old = source_layer s filled (info ch).source; mode = Skip }) Blank s.colors m before ch c r some
                ∙ source_shows s before m c r tile filled (info ch).source ch
                ∙ sym (goal_off ch c r on off),
          )

      stays_there :
          (p c r : ℕ)
          → own s target p ≡ true
          → ((touches d p && area c r) || (touches k p && rest c r)) ≡ false
          → on_canvas s (channel_at s target p) (across s c) (down s r) ≡ true
          → goal (channel_at s target p) c r ≡ seen before p c r
      stays_there p c r mine w shown =
          let ch = channel_at s target p in
          let tile = (and_parts (ltb ch (channels_of s)) _ shown).1 in
          let neither = or_parts (touches d p && area c r) (touches k p && rest c r) w in
          let out = none_if (touches d p) (area c r) (touch_plan by p ∙ and_from (own s target p) true mine refl) neither.0 in
          let off = none_if (has s.region (across s c) (down s r)) _ tile (sym (part c r) ∙ out) in
          let there = and_from (in_area (whole s) c r) _ (tile_area s c r ∙ tile) (not_from_false (area c r) out) in
          let none = none_if (own s target p) (is_some (keep_plan s o filled ch)) mine (sym (touch_plan keeps p) ∙ off_if (touches k p) (rest c r) there neither.1) in
          let kept = kept_own (get_or filled target false) (eqb (info ch).source target) _ none in
          goal_off ch c r shown off
          ∙ sym (source_shows s before m c r tile filled (info ch).source ch)
          ∙ ap (λ q. layer_at (source_layer s filled q) m before ch c r) (eqb-true (info ch).source target kept.1)
          ∙ ap (λ b. layer_at (cond b (slot_layer s target) Blank) m before ch c r) kept.0
          ∙ cond-true (ltb ch (channels_of s)) _ zero (below p mine)
          ∙ ap (λ q. seen before q c r) (plane_back s target p mine)
