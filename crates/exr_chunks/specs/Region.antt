-- The region of each chunk and its place. File Layout, "Chunk Layout"; Technical Introduction, "Tiles".
--
-- A part of scan lines is cut into blocks as wide as the data window and as high as the method's lines; a part of tiles
-- into tiles. Chunks are counted row by row, and in each row from left to right.
use Rattle.std.specs.Prelude.{◌≡◌, ◌+◌, ◌-◌, ◌*◌, ◌/◌, ◌%◌, ◌<◌, ℕ, ℤ, pos, ◌+ℤ◌, List, [], slice_index_or, Option, Some, None, if◌then◌else◌}
use Rattle.std.specs.Int.{int_min}
use Rattle.exr_base.specs.declared.shape.Box2i.{Box2i}
use Rattle.exr_base.specs.declared.method.Method.TheVariants.{No}
use Rattle.exr_base.specs.Shape.{width_of, height_of, raw_size_of}
use Rattle.exr_chunks.specs.declared.place.Place.{Place}
use Rattle.exr_chunks.specs.declared.place.Place.TheVariants.{Line, Tile}
use Rattle.exr_chunks.specs.Heads.{Header, Scan, Increasing, Tiles, is_deep, pieces, chunk_width, chunk_height, chunk_count_of}

-- the header of a part. There is none after the last one: what stands there is of no part.
abbrev pub no_header : Header
no_header = record {
  attributes = [];
  kind = Scan;
  channels = [];
  method = No;
  window = record { x0 = pos 0; y0 = pos 0; x1 = pos 0; y1 = pos 0 };
  order = Increasing;
  tiles = None;
}

abbrev pub header_at : List Header → ℕ → Header
header_at parts part = slice_index_or parts part no_header

-- the number of chunks in a row, and the number of such rows
abbrev pub across_of : Header → ℕ
across_of h = pieces (chunk_width h) (width_of h.window)

abbrev pub down_of : Header → ℕ
down_of h = pieces (chunk_height h) (height_of h.window)

-- the column and the row of a chunk
abbrev pub column_of : Header → ℕ → ℕ
column_of h i = i % across_of h

abbrev pub row_of : Header → ℕ → ℕ
row_of h i = i / across_of h

-- where a piece of a side begins, and where it ends: one before the next begins, cut where the side ends
abbrev pub start_of : ℤ → ℕ → ℕ → ℤ
start_of from size piece = from +ℤ pos (piece * size)

abbrev pub end_of : ℤ → ℤ → ℕ → ℕ → ℤ
end_of from to size piece = int_min (from +ℤ pos (piece * size + size - 1)) to

-- the region of chunk i
unfoldable pub region_of : Header → ℕ → Box2i
region_of h i = record {
  x0 = start_of h.window.x0 (chunk_width h) (column_of h i);
  y0 = start_of h.window.y0 (chunk_height h) (row_of h i);
  x1 = end_of h.window.x0 h.window.x1 (chunk_width h) (column_of h i);
  y1 = end_of h.window.y0 h.window.y1 (chunk_height h) (row_of h i);
}

-- the raw bytes of chunk i, of a deep one those of its count table, which has four bytes a pixel
unfoldable pub chunk_bytes_of : Header → ℕ → ℕ
chunk_bytes_of h i =
    if is_deep h.kind then 4 * (width_of (region_of h i) * height_of (region_of h i)) else raw_size_of h.channels (region_of h i)

-- the place of chunk i: its first line, or its tile numbers on the one level
abbrev pub place_among : Header → Option Tiles → ℕ → Place
place_among h None i = Line (region_of h i).y0
place_among h (Some t) i = Tile (column_of h i) (row_of h i) 0 0

unfoldable pub place_of : Header → ℕ → Place
place_of h i = place_among h h.tiles i

-- chunk i is the part's chunk with that place
pub record IsIndexOf (h : Header) (place : Place) (i : ℕ) : Type 0 where
  pub within : i < chunk_count_of h
  pub has_place : place_of h i ≡ place
