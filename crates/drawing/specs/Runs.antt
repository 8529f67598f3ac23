-- Words of the inner contracts: a room that holds a run of each channel.
use Rattle.std.specs.Prelude.{◌≡◌, ℕ, ◌+◌, ◌-◌, ◌<◌, Bool, true, ◌&&◌, List, [], is_some, nat_le, nat_lt, slice_index_or, Float}
use Rattle.std.specs.Float.{nan}
use Rattle.picture.specs.Meaning.{Meaning}
use Rattle.store.specs.Held.{Held}
use Rattle.drawing.specs.declared.strokes.Drawing.{Drawing}
use Rattle.drawing.specs.Layers.{stroke_of, stroke_or}

-- sample k of a channel's run
abbrev pub room_at : List (List Float) → (channel k : ℕ) → Float
room_at room ch k = slice_index_or (slice_index_or room ch []) k nan

-- the runs of the first channels are made
abbrev pub MadeBelow : ℕ → Drawing → Meaning → Held → (column row count : ℕ) → List (List Float) → Type 0
MadeBelow n d m h column row count room =
    (ch k : ℕ)
    → ch < n
    → k < count
    → is_some (stroke_of d ch) ≡ true
    → room_at room ch k ≡ stroke_or (stroke_of d ch) d.new d.colors m h ch (column + k) row

-- the planes of the first channels, those of them that have a stroke
abbrev pub touches_below : ℕ → Drawing → (plane : ℕ) → Bool
touches_below n d p = (nat_le d.first p && nat_lt (p - d.first) n) && is_some (stroke_of d (p - d.first))
