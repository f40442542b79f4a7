-- What a part's windows, tiles and chunks are like. File Layout, "Chunk Layout"; Technical Introduction, "Tiles".
use Rattle.std.specs.Prelude.{◌==◌, ◌≤◌, ◌≤ℤ◌, ◌+◌, ◌-◌, ◌*◌, ◌/◌, ◌%◌, ◌^◌, ◌&&◌, ◌||◌, min, nat_le, int_le, ℕ, ℤ, pos, neg_ℤ, ◌+ℤ◌, Bool, List, slice_index, Option, Some, None, if◌then◌else◌}
use Rattle.exr_base.specs.declared.shape.Box2i.{Box2i}
use Rattle.exr_base.specs.declared.channel.Channel.{Channel}
pub use Rattle.exr_base.specs.Boxes.{is_empty}
use Rattle.exr_base.specs.Method.{lines_of}
pub use Rattle.exr_base.specs.Sampling.{pieces}
use Rattle.exr_base.specs.Sampling.{is_multiple, span_of}
use Rattle.exr_base.specs.Shape.{width_of, height_of, raw_size_of, IsShape}
use Rattle.exr_judge.specs.declared.kind.Tiles.{Tiles}
use Rattle.exr_judge.specs.declared.header.Header.{Header}
use Rattle.exr_judge.specs.Kind.{is_tiled, is_deep}
use Rattle.exr_judge.specs.Words.{word_of, int_of}

-- the window of a value of type box2i
abbrev pub box_of : List ℕ → Box2i
box_of v = record { x0 = int_of v 0; y0 = int_of v 4; x1 = int_of v 8; y1 = int_of v 12 }

-- within 2^30 of 0
abbrev pub is_coordinate : ℤ → Bool
is_coordinate z = int_le (neg_ℤ (pos (2 ^ 30))) z && int_le z (pos (2 ^ 30))

abbrev pub has_coordinates : Box2i → Bool
has_coordinates w = (is_coordinate w.x0 && is_coordinate w.y0) && (is_coordinate w.x1 && is_coordinate w.y1)

-- the same as a fact, of two places
pub record AreCoordinates (x y : ℤ) : Type 0 where
  pub left : neg_ℤ (pos (2 ^ 30)) ≤ℤ x
  pub right : x ≤ℤ pos (2 ^ 30)
  pub top : neg_ℤ (pos (2 ^ 30)) ≤ℤ y
  pub bottom : y ≤ℤ pos (2 ^ 30)

-- sides of at most 2^20 pixels
abbrev pub has_sides : Box2i → Bool
has_sides w = nat_le (width_of w) (2 ^ 20) && nat_le (height_of w) (2 ^ 20)

-- the tiles of a value of type tiledesc
abbrev pub tiles_of : List ℕ → Tiles
tiles_of v =
    record { xsize = word_of v 0; ysize = word_of v 4; mode = slice_index v 8 % 16; rounding = slice_index v 8 / 16 }

abbrev pub is_tile_side : ℕ → Bool
is_tile_side n = nat_le 1 n && nat_le n (2 ^ 30)

abbrev pub is_tiles : Tiles → Bool
is_tiles t = is_tile_side t.xsize && is_tile_side t.ysize && nat_le t.mode 2 && nat_le t.rounding 1

-- a channel has samples at each pixel
abbrev pub is_everywhere : Channel → Bool
is_everywhere c = c.xs == 1 && c.ys == 1

-- the data window begins at a sample of the channel, and its sides are whole multiples of the samplings
abbrev pub is_side_aligned : ℤ → ℤ → ℕ → Bool
is_side_aligned from to sampling = is_multiple sampling from && (span_of from to % sampling) == 0

abbrev pub is_aligned : Box2i → Channel → Bool
is_aligned w c = is_side_aligned w.x0 w.x1 c.xs && is_side_aligned w.y0 w.y1 c.ys

-- a channel's samplings fit the kind of part and the window
abbrev pub is_sampled_well : Header → Channel → Bool
is_sampled_well h c = if is_tiled h.kind || is_deep h.kind then is_everywhere c else is_aligned h.window c

-- the columns and the lines of a chunk that is not cut at the data window's edge
abbrev pub columns_of : ℕ → Option Tiles → ℕ
columns_of whole None = whole
columns_of whole (Some t) = t.xsize

abbrev pub rows_of : ℕ → Option Tiles → ℕ
rows_of lines None = lines
rows_of lines (Some t) = t.ysize

abbrev pub chunk_width : Header → ℕ
chunk_width h = columns_of (width_of h.window) h.tiles

abbrev pub chunk_height : Header → ℕ
chunk_height h = rows_of (lines_of h.method) h.tiles

-- the chunks of a part
unfoldable pub chunk_count_of : Header → ℕ
chunk_count_of h = pieces (chunk_width h) (width_of h.window) * pieces (chunk_height h) (height_of h.window)

-- the region of the first chunk
abbrev pub first_end : ℤ → ℤ → ℕ → ℤ
first_end from to most = from +ℤ pos (min (span_of from to) most - 1)

abbrev pub first_region : Header → Box2i
first_region h = record {
  x0 = h.window.x0;
  y0 = h.window.y0;
  x1 = first_end h.window.x0 h.window.x1 (chunk_width h);
  y1 = first_end h.window.y0 h.window.y1 (chunk_height h);
}

-- the raw bytes of the first chunk, of a deep one those of its count table. No chunk of the part has more, which is a law
-- where all chunks have regions (`no_chunk_is_larger` of exr_chunks).
unfoldable pub raw_chunk_of : Header → ℕ
raw_chunk_of h =
    if is_deep h.kind
    then 4 * (min (width_of h.window) (chunk_width h) * min (height_of h.window) (chunk_height h))
    else raw_size_of h.channels (first_region h)

-- what was judged of a header so far: a window and channels that make a shape, and sides of tiles
abbrev pub AreTiles : Option Tiles → Type 0
AreTiles None = Unit {0}
AreTiles (Some t) = (1 ≤ t.xsize) × (t.xsize ≤ 2 ^ 30) × (1 ≤ t.ysize) × (t.ysize ≤ 2 ^ 30)

pub record IsPicture (h : Header) : Type 0 where
  pub shape : IsShape h.channels h.window
  pub columns : h.window.x0 ≤ℤ h.window.x1
  pub rows : h.window.y0 ≤ℤ h.window.y1
  pub tiles : AreTiles h.tiles
