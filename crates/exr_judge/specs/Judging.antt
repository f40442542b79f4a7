-- Judging a header: from its attributes to what they say, or the first fault in the stated order (own).
use Rattle.std.specs.Prelude.{◌==◌, ◌+◌, ◌^◌, ◌&&◌, ◌||◌, not, nat_lt, nat_le, ℕ, Bool, List, length, slice_index, sum_by, Option, Some, None, Result, Ok, Err, if◌then◌else◌}
use Rattle.std.specs.List.{position_from, list_any}
use Rattle.std.specs.Str.{bytes_eq}
use Rattle.exr_base.specs.Refusal.{◌>>=◌}
use Rattle.exr_base.specs.Method.{method_of}
use Rattle.exr_base.specs.declared.shape.Box2i.{Box2i}
use Rattle.exr_base.specs.declared.channel.Channel.{Channel}
use Rattle.exr_base.specs.declared.method.Method.{Method}
use Rattle.exr_attributes.specs.declared.fault.HeaderFault.{HeaderFault}
use Rattle.exr_attributes.specs.declared.fault.HeaderFault.TheVariants.{BadChannels, BadWindow, BadSampling, BadTiles, UnknownCompression, BadLineOrder, BadPartType, TwicePart, ChunkCount, Limit, Levels, BadDeepVersion}
use Rattle.exr_attributes.specs.declared.fault.Field.TheVariants as field
use Rattle.exr_attributes.specs.declared.fault.Bound.TheVariants as bound
use Rattle.exr_attributes.specs.declared.attribute.Entry.{Entry}
use Rattle.exr_judge.specs.declared.kind.PartKind.{PartKind}
use Rattle.exr_judge.specs.declared.kind.LineOrder.{LineOrder}
use Rattle.exr_judge.specs.declared.kind.LineOrder.TheVariants.{Increasing, Decreasing, Random}
use Rattle.exr_judge.specs.declared.kind.Tiles.{Tiles}
use Rattle.exr_judge.specs.declared.kind.Flags.{Flags}
use Rattle.exr_judge.specs.declared.header.Header.{Header}
use Rattle.exr_judge.specs.Kind.{is_tiled, is_deep, kind_named}
use Rattle.exr_judge.specs.Words.{word_of, int_of}
use Rattle.exr_judge.specs.Fields.{needed_at, value_of, is_there, all_fields}
use Rattle.exr_judge.specs.Channels.{channels_of}
use Rattle.exr_judge.specs.Picture.{box_of, is_empty, has_coordinates, has_sides, tiles_of, is_tiles, is_sampled_well, chunk_count_of, raw_chunk_of}

-- the value, or else a fault
abbrev pub or_fault : {A : Type 0} → HeaderFault → Option A → Result A HeaderFault
or_fault fault None = Err fault
or_fault fault (Some x) = Ok x

-- a fault where a test fails
abbrev pub tested : Bool → HeaderFault → Result (Unit {0}) HeaderFault
tested test fault = if test then Ok tt else Err fault

-- the kind that `type` names
unfoldable pub typed_kind : ℕ → List Entry → Result PartKind HeaderFault
typed_kind part es = do
  text ← needed_at part field.PartType es
  or_fault (BadPartType part) (kind_named text)

unfoldable pub channels_judged : ℕ → List ℕ → Result (List Channel) HeaderFault
channels_judged part v = do
  channels ← or_fault (BadChannels part) (channels_of v)
  (if nat_le (length channels) 1024 then Ok channels else Err (Limit bound.Channels))

unfoldable pub method_judged : ℕ → PartKind → ℕ → Result Method HeaderFault
method_judged part kind number =
    if is_deep kind && nat_lt 3 number then Err (UnknownCompression part number)
    else or_fault (UnknownCompression part number) (method_of number)

unfoldable pub order_judged : ℕ → PartKind → ℕ → Result LineOrder HeaderFault
order_judged part kind number =
    if number == 0 then Ok Increasing
    else (if number == 1 then Ok Decreasing
    else (if number == 2 && is_tiled kind then Ok Random else Err (BadLineOrder part number)))

unfoldable pub window_judged : ℕ → Box2i → Result Box2i HeaderFault
window_judged part w =
    if is_empty w then Err (BadWindow part)
    else (if not (has_coordinates w) then Err (Limit bound.Coordinates)
    else (if has_sides w then Ok w else Err (Limit bound.Side)))

unfoldable pub tiles_judged : ℕ → PartKind → Tiles → Result (Option Tiles) HeaderFault
tiles_judged part kind t =
    if not (is_tiled kind) then Ok None
    else (if not (is_tiles t) then Err (BadTiles part)
    else (if t.mode == 0 then Ok (Some t) else Err (Levels part)))

-- what the judged attributes say
unfoldable pub picture_of : ℕ → PartKind → List Entry → Result Header HeaderFault
picture_of part kind es = do
  channels ← channels_judged part (value_of field.Channels es)
  method ← method_judged part kind (slice_index (value_of field.Compression es) 0)
  order ← order_judged part kind (slice_index (value_of field.LineOrder es) 0)
  window ← window_judged part (box_of (value_of field.DataWindow es))
  tiles ← tiles_judged part kind (tiles_of (value_of field.Tiles es))
  Ok (record { attributes = es; kind = kind; channels = channels; method = method; window = window; order = order; tiles = tiles })

-- the first channel whose samplings do not fit
abbrev pub sampling_fault : ℕ → Option ℕ → Result (Unit {0}) HeaderFault
sampling_fault part None = Ok tt
sampling_fault part (Some channel) = Err (BadSampling part channel)

unfoldable pub samplings_judged : ℕ → Header → Result (Unit {0}) HeaderFault
samplings_judged part h = sampling_fault part (position_from (λ c. not (is_sampled_well h c)) 0 h.channels)

unfoldable pub version_judged : ℕ → Header → Result (Unit {0}) HeaderFault
version_judged part h = do
  let v = value_of field.Version h.attributes
  tested (not (is_deep h.kind) || word_of v 0 == 1) (BadDeepVersion part (int_of v 0))

-- the chunks of all parts so far, and the raw size of one
unfoldable pub sizes_judged : List Header → Header → Result (Unit {0}) HeaderFault
sizes_judged earlier h = do
  few ← tested (nat_le (sum_by chunk_count_of earlier + chunk_count_of h) (2 ^ 20)) (Limit bound.Chunks)
  tested (nat_le (raw_chunk_of h) (2 ^ 26)) (Limit bound.RawChunk)

-- chunkCount, in the files that have it, where it is there
unfoldable pub count_judged : Flags → ℕ → Header → Result (Unit {0}) HeaderFault
count_judged flags part h = do
  let v = value_of field.ChunkCount h.attributes
  tested
      (not (flags.multi || flags.deep) || not (is_there field.ChunkCount h.attributes) || word_of v 0 == chunk_count_of h)
      (ChunkCount part (int_of v 0) (chunk_count_of h))

-- whether a header has a name of a part
abbrev pub is_called : List ℕ → Header → Bool
is_called name h = bytes_eq name (value_of field.PartName h.attributes)

unfoldable pub name_judged : Flags → List Header → Header → Result (Unit {0}) HeaderFault
name_judged flags earlier h =
    tested
    (not flags.multi || not (list_any (is_called (value_of field.PartName h.attributes)) earlier))
    (TwicePart (length earlier))

-- the tests of what a header says, by itself and among the earlier ones
unfoldable pub header_judged : Flags → List Header → Header → Result (Unit {0}) HeaderFault
header_judged flags earlier h = do
  samplings ← samplings_judged (length earlier) h
  version ← version_judged (length earlier) h
  sizes ← sizes_judged earlier h
  count ← count_judged flags (length earlier) h
  name_judged flags earlier h

-- a part of some kind behind earlier ones
unfoldable pub judged : Flags → List Header → PartKind → List Entry → Result Header HeaderFault
judged flags earlier kind es = do
  fields ← all_fields flags (length earlier) kind es
  h ← picture_of (length earlier) kind es
  passed ← header_judged flags earlier h
  Ok h
