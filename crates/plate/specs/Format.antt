-- The plate format: how a frame's numbers, records and samples lie in bytes, what they mean, and why a plate is refused.
-- `bytes` are those from the plate's first on, up to the end of the input; past the end every byte reads as 0.
use Rattle.std.specs.Prelude.{◌≡◌, ℕ, ◌+◌, ◌*◌, min, Bool, true, false, cond, not, ◌&&◌, ◌||◌, ltb, leb, List, [], ◌∷◌, map, length, take, drop, pos, Some, None, Option, ◌==◌, nat_le, nat_lt, refl}
use Rattle.std.specs.List.{range_with_len}
use Rattle.std.specs.Str.{bytes_eq}
use Rattle.refusal.specs.declared.Refusal.{Refusal}
use Rattle.refusal.specs.declared.Refusal.TheVariants as why
use Rattle.region.specs.Bounds.{is_region}
use Rattle.region.specs.Positions.{column_of, row_of}
use Rattle.region.specs.declared.Region.{Region}
use Rattle.picture.specs.Meaning.{Meaning}
use Rattle.machine.specs.declared.calls.Header.{Header}
use Rattle.machine.specs.declared.calls.FrameRecord.{FrameRecord}
use Rattle.std.specs.List.{list_any}
use Rattle.machine.specs.Checks.{Check, ◌unless◌, first_broken, frame_allowed}
use Rattle.byte_fields.specs.Words.{byte_at, word_at, signed_at, float_at}

-- ---- the header, 64 bytes

abbrev pub version_of : List ℕ → ℕ
version_of bytes = word_at bytes 0

abbrev pub colors_of : List ℕ → ℕ
colors_of bytes = word_at bytes 8

abbrev pub extras_of : List ℕ → ℕ
extras_of bytes = word_at bytes 12

abbrev pub header_of : List ℕ → Header
header_of bytes =
    record {
      number = word_at bytes 4;
      left = signed_at bytes 16;
      top = signed_at bytes 20;
      width = word_at bytes 24;
      height = word_at bytes 28;
      target = word_at bytes 32;
    }

-- eight bytes for kinds: one for each extra channel, and the unused ones
abbrev pub kind_bytes : List ℕ → List ℕ
kind_bytes bytes = take 8 (drop 36 bytes)

abbrev pub kinds_of : List ℕ → List ℕ
kinds_of bytes = take (extras_of bytes) (kind_bytes bytes)

abbrev pub unused_kinds : List ℕ → List ℕ
unused_kinds bytes = drop (extras_of bytes) (kind_bytes bytes)

abbrev pub record_offset : List ℕ → ℕ
record_offset bytes = word_at bytes 44

abbrev pub sample_offset : List ℕ → ℕ
sample_offset bytes = word_at bytes 48

abbrev pub sample_count : List ℕ → ℕ
sample_count bytes = word_at bytes 52

abbrev pub length_of : List ℕ → ℕ
length_of bytes = word_at bytes 56

abbrev pub spare_of : List ℕ → ℕ
spare_of bytes = word_at bytes 60

abbrev pub channels_of : List ℕ → ℕ
channels_of bytes = colors_of bytes + extras_of bytes

-- ---- the records, four bytes each, one for all colours and one for each extra channel

abbrev pub clamp_at : List ℕ → ℕ → ℕ
clamp_at bytes k = byte_at bytes (66 + 4 * k)

abbrev pub record_at : List ℕ → ℕ → FrameRecord
record_at bytes k =
    record {
      mode = byte_at bytes (64 + 4 * k);
      alpha = byte_at bytes (65 + 4 * k);
      clamp = (clamp_at bytes k == 1);
      source = byte_at bytes (67 + 4 * k);
    }

-- at most nine: a plate with more extra channels than eight is refused
abbrev pub records_of : List ℕ → List FrameRecord
records_of bytes = map (record_at bytes) (range_with_len 0 (min 9 (extras_of bytes + 1)))

-- ---- the samples, in the order of grids

-- where they begin, behind the records
abbrev pub samples_from : ℕ → ℕ
samples_from extras = 64 + 4 * (extras + 1)

abbrev pub sample_number : (width height channel column row : ℕ) → ℕ
sample_number width height channel column row = (channel * height + row) * width + column

-- from the origin; the empty region where the sides make none
abbrev pub sides_if : (width height : ℕ) (b : Bool) → is_region (pos 0) (pos 0) width height ≡ b → Region
sides_if width height true made = record { left = pos 0; top = pos 0; width = width; height = height; ok = made }
sides_if width height false none = record { left = pos 0; top = pos 0; width = 0; height = 0; ok = refl }

unfoldable pub sides : (width height : ℕ) → Region
sides width height = sides_if width height (is_region (pos 0) (pos 0) width height) refl

abbrev pub picture_of : (channels width height start : ℕ) → List ℕ → Meaning
picture_of channels width height start bytes =
    record {
      channels = channels;
      region = sides width height;
      at = λ c x y. float_at bytes (start + 4 * sample_number width height c (column_of (sides width height) x) (row_of (sides width height) y));
    }

abbrev pub plate_meaning : List ℕ → Meaning
plate_meaning bytes =
    picture_of (channels_of bytes) (header_of bytes).width (header_of bytes).height (samples_from (extras_of bytes)) bytes

-- ---- why a plate is refused

-- what later plates have in common with the first
pub record Alike : Type 0 where
  pub colors : ℕ
  pub kinds : List ℕ

abbrev pub alike_of : List ℕ → Alike
alike_of bytes = record { colors = colors_of bytes; kinds = kinds_of bytes }

abbrev pub agrees : Option Alike → List ℕ → Bool
agrees None bytes = true
agrees (Some first) bytes = colors_of bytes == first.colors && bytes_eq (kinds_of bytes) first.kinds

abbrev pub header_sound : List ℕ → Bool
header_sound bytes =
    (nat_le 64 (length bytes) && version_of bytes == 1) && (spare_of bytes == 0 && not (list_any (ltb 0) (unused_kinds bytes)))

abbrev pub channels_allowed : List ℕ → Bool
channels_allowed bytes =
    (colors_of bytes == 1 || colors_of bytes == 3) && (nat_le (extras_of bytes) 8 && not (list_any (ltb 2) (kinds_of bytes)))

abbrev pub formulas_hold : List ℕ → Bool
formulas_hold bytes =
    (record_offset bytes == 64 && sample_offset bytes == samples_from (extras_of bytes))
    && ((sample_count bytes == channels_of bytes * (header_of bytes).width * (header_of bytes).height
    && length_of bytes == sample_offset bytes + 4 * sample_count bytes)
    && nat_le (length_of bytes) 1073741824)

-- whether one of the first n clamp bytes is neither 0 nor 1
abbrev pub clamp_broken : List ℕ → ℕ → Bool
clamp_broken bytes n = list_any (λ k. nat_lt 1 (clamp_at bytes k)) (range_with_len 0 n)

abbrev pub content_allowed : Option Alike → List ℕ → Bool
content_allowed first bytes = not (clamp_broken bytes (extras_of bytes + 1)) && agrees first bytes

abbrev pub plate_checks : Option Alike → List ℕ → List Check
plate_checks first bytes =
    (why.PlateHeader unless header_sound bytes)
    ∷ ((why.ChannelKinds unless channels_allowed bytes)
    ∷ ((why.FrameLimits unless frame_allowed (header_of bytes))
    ∷ ((why.PlateFormula unless formulas_hold bytes)
    ∷ ((why.PlateCut unless leb (length_of bytes) (length bytes)) ∷ ((why.PlateContent unless content_allowed first bytes) ∷ [])))))

-- ---- plates in an input, one behind the other

-- of the plate that begins at a byte of the input
abbrev pub plate_refusal : Option Alike → List ℕ → (at : ℕ) → Option Refusal
plate_refusal first input at = first_broken (plate_checks first (drop at input))

-- the plate that begins at byte 0 is the first, and has none to agree with
abbrev pub first_alike : (plate : ℕ) → List ℕ → Option Alike
first_alike plate input = cond (plate == 0) None (Some (alike_of input))
