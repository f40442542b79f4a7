-- The packed data of a region: channel by channel in list order, all lines of a channel together. The halves of a channel
-- stand in cells, samples of 32 bits as they are.
-- Technical Introduction, "Data Compression"; the bytes are this project's (own).
use Rattle.std.specs.Prelude.{◌≡◌, ℕ, ◌+◌, ◌*◌, ◌/◌, ◌%◌, List, [], ◌∷◌, ◌++◌, map, length, take, drop, slice_index, Bool, nat_lt, if◌then◌else◌, Result, Ok, Err}
use Rattle.std.specs.List.{range_with_len}
use Rattle.exr_base.specs.declared.shape.Box2i.{Box2i}
use Rattle.exr_base.specs.declared.channel.Channel.{Channel}
use Rattle.exr_base.specs.declared.channel.Kind.{Kind}
use Rattle.exr_base.specs.declared.channel.Kind.TheVariants.{Uint, Half, Float}
use Rattle.exr_base.specs.Sampling.{multiples_among}
use Rattle.exr_base.specs.Shape.{width_of, height_of, channel_bytes_of}
use Rattle.exr_planar.specs.Planar.{planar_of, raw_from_planar}
use Rattle.exr_b44.specs.declared.fault.B44Fault.{B44Fault}
use Rattle.exr_b44.specs.declared.fault.B44Fault.TheVariants.{Short, Long}
use Rattle.exr_b44.specs.Cell.{cell_of, uncell_of, bytes_of_halves}
use Rattle.exr_b44.specs.Plane.{cells_for, cell_in, cells_of, cells_len, plane_of}

-- the halves are not to be packed by their logarithms
pub record IsPlain (c : Channel) : Type 0 where
  pub plain : c.kind ≡ Half → c.linear ≡ 0

-- the samples of a channel in a line of a region, and the lines with samples of it
abbrev pub columns_of : Box2i → Channel → ℕ
columns_of region c = multiples_among c.xs region.x0 (width_of region)

abbrev pub rows_of : Box2i → Channel → ℕ
rows_of region c = multiples_among c.ys region.y0 (height_of region)

-- ---- unpacking

-- how many bytes the samples of a channel with so many columns and lines take, that begin the packed data
abbrev pub packed_len : Kind → ℕ → ℕ → List ℕ → ℕ
packed_len Uint columns rows packed = columns * rows * 4
packed_len Half columns rows packed = cells_len (cells_for columns * cells_for rows) packed
packed_len Float columns rows packed = columns * rows * 4

-- the samples
abbrev pub unpacked : Kind → ℕ → ℕ → List ℕ → List ℕ
unpacked Uint columns rows packed = take (columns * rows * 4) packed
unpacked Half columns rows packed = plane_of columns rows packed
unpacked Float columns rows packed = take (columns * rows * 4) packed

-- the same of a channel of a region
unfoldable pub channel_len : Box2i → Channel → List ℕ → ℕ
channel_len region c packed = packed_len c.kind (columns_of region c) (rows_of region c) packed

unfoldable pub channel_unpacked : Box2i → Channel → List ℕ → List ℕ
channel_unpacked region c packed = unpacked c.kind (columns_of region c) (rows_of region c) packed

-- the same of channels one after the other
unfoldable pub channels_len : Box2i → List Channel → List ℕ → ℕ
channels_len region [] packed = 0
channels_len region (c ∷ channels) packed = channel_len region c packed + channels_len region channels (drop (channel_len region c packed) packed)

unfoldable pub channels_unpacked : Box2i → List Channel → List ℕ → List ℕ
channels_unpacked region [] packed = []
channels_unpacked region (c ∷ channels) packed = channel_unpacked region c packed ++ channels_unpacked region channels (drop (channel_len region c packed) packed)

-- the raw data of packed data
unfoldable pub b44_of : List Channel → Box2i → List ℕ → Result (List ℕ) B44Fault
b44_of channels region packed =
    if nat_lt (length packed) (channels_len region channels packed) then Err Short
    else if nat_lt (channels_len region channels packed) (length packed) then Err Long
    else Ok (raw_from_planar channels region (channels_unpacked region channels packed))

-- ---- packing

abbrev pub packed_of : Kind → ℕ → ℕ → Bool → List ℕ → List ℕ
packed_of Uint columns rows flat samples = samples
packed_of Half columns rows flat samples = cells_of columns rows flat samples
packed_of Float columns rows flat samples = samples

unfoldable pub channel_packed : Box2i → Bool → Channel → List ℕ → List ℕ
channel_packed region flat c samples = packed_of c.kind (columns_of region c) (rows_of region c) flat samples

-- channels one after the other, from their samples one after the other
unfoldable pub channels_packed : Box2i → Bool → List Channel → List ℕ → List ℕ
channels_packed region flat [] planar = []
channels_packed region flat (c ∷ channels) planar = channel_packed region flat c (take (channel_bytes_of region c) planar) ++ channels_packed region flat channels (drop (channel_bytes_of region c) planar)

-- the packed data of raw data; `flat` is B44A
unfoldable pub b44_pack_of : List Channel → Box2i → Bool → List ℕ → List ℕ
b44_pack_of channels region flat raw = channels_packed region flat channels (planar_of channels region raw)

-- ---- what packing keeps

-- the half in column x of line y, as its cell keeps it
abbrev pub half_kept : ℕ → ℕ → Bool → List ℕ → ℕ → ℕ → ℕ
half_kept columns rows flat samples x y =
    slice_index (uncell_of (cell_of (cell_in columns rows samples (y / 4 * cells_for columns + x / 4)) flat)) (y % 4 * 4 + x % 4)

abbrev pub kept : Kind → ℕ → ℕ → Bool → List ℕ → List ℕ
kept Uint columns rows flat samples = samples
kept Half columns rows flat samples = bytes_of_halves (map (λ n. half_kept columns rows flat samples (n % columns) (n / columns)) (range_with_len 0 (columns * rows)))
kept Float columns rows flat samples = samples

unfoldable pub channel_kept : Box2i → Bool → Channel → List ℕ → List ℕ
channel_kept region flat c samples = kept c.kind (columns_of region c) (rows_of region c) flat samples

unfoldable pub channels_kept : Box2i → Bool → List Channel → List ℕ → List ℕ
channels_kept region flat [] planar = []
channels_kept region flat (c ∷ channels) planar = channel_kept region flat c (take (channel_bytes_of region c) planar) ++ channels_kept region flat channels (drop (channel_bytes_of region c) planar)

-- raw data with each cell of halves as its packed cell reads back, and each other sample as it is
unfoldable pub kept_of : List Channel → Box2i → Bool → List ℕ → List ℕ
kept_of channels region flat raw = raw_from_planar channels region (channels_kept region flat channels (planar_of channels region raw))
