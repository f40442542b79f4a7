-- The rows of a window, cut into pieces that each lie in one chunk.
use Rattle.std.specs.Prelude.{◌≡◌, ◌<◌, ◌≤◌, ◌+◌, ◌*◌, ◌^◌, ◌-ℤ◌, ◌+ℤ◌, ◌≤ℤ◌, ℕ, ℤ, pos, nat_abs, Bool, ◌&&◌, List, [], ◌++◌, length, take, drop, sum, map, slice_index_or}
use Rattle.std.specs.List.{All, flat_map, sum_by}
use Rattle.exr_base.specs.declared.shape.Box2i.{Box2i}
use Rattle.exr_base.specs.declared.channel.Channel.{Channel}
use Rattle.exr_base.specs.Boxes.{IsWithin, is_side_inside}
use Rattle.exr_base.specs.Shape.{width_of, IsRegion}
use Rattle.exr_deep.specs.Body.{DeepContent, content_of}
use Rattle.exr_deep.specs.Deep.{pixels_of}
use Rattle.exr_image.specs.declared.chunk.DeepChunk.{DeepChunk}
use Rattle.exr_image.specs.declared.pixel.Pixel.{Pixel}
use Rattle.exr_image.specs.declared.piece.Piece.{Piece}
use Rattle.exr_image.specs.declared.sizes.Sizes.{Sizes}
use Rattle.exr_image.specs.declared.tally.Tally.{Tally}
use Rattle.exr_image.specs.Pixel.{row_start, pixel_number, samples_between, sizes_of}
use Rattle.exr_image.specs.Image.{along_row, along_rows}

-- ---- chunks

-- a chunk as a region and its content. There is none after the last one: what stands there is of no part.
pub record ChunkView : Type 0 where
  pub region : Box2i
  pub content : DeepContent

abbrev pub view_of : DeepChunk → ChunkView
view_of chunk = record { region = chunk.region; content = content_of chunk.content }

abbrev pub no_chunk : ChunkView
no_chunk = record { region = record { x0 = pos 0; y0 = pos 0; x1 = pos 0; y1 = pos 0 }; content = record { counts = []; samples = [] } }

unfoldable pub chunk_at : List DeepChunk → ℕ → ChunkView
chunk_at chunks number = slice_index_or (map view_of chunks) number no_chunk

-- a chunk has a count for each pixel of its region
pub record IsCounted (chunk : ChunkView) : Type 0 where
  pub region : IsRegion chunk.region
  pub long : length chunk.content.counts ≡ pixels_of chunk.region
  pub small : length chunk.content.counts ≤ 2 ^ 24

abbrev pub AreCounted : List DeepChunk → Type 0
AreCounted chunks = (number : ℕ) → number < length chunks → IsCounted (chunk_at chunks number)

abbrev pub has_pixel : Box2i → Pixel → Bool
has_pixel region pixel = is_side_inside pixel.x pixel.x region.x0 region.x1 && is_side_inside pixel.y pixel.y region.y0 region.y1

-- ---- tallies

-- the samples of a chunk's first pixels were counted
pub record IsTally (counts : List ℕ) (tally : Tally) : Type 0 where
  pub within : tally.pixels ≤ length counts
  pub counted : tally.samples ≡ sum (take tally.pixels counts)
  pub small : tally.samples ≤ tally.pixels * 2 ^ 32

pub record AreTallies (chunks : List DeepChunk) (tallies : List Tally) : Type 0 where
  pub many : length tallies ≡ length chunks
  pub each : (number : ℕ) (d : Tally) → number < length chunks → IsTally (chunk_at chunks number).content.counts (slice_index_or tallies number d)

-- ---- pieces

-- pixels of one row of a region, from (x, y) on, that are also in a window; and how many samples there are in the rows
-- above, in the row, in the row to the left of them, and in them
pub record IsPieceIn (chunk : ChunkView) (window : Box2i) (x y : ℤ) (piece : Piece) : Type 0 where
  pub has : IsWithin chunk.region x y
  pub first : piece.first ≡ pixel_number chunk.region x y
  pub some : 1 ≤ piece.pixels
  pub in_row : nat_abs (x -ℤ chunk.region.x0) + piece.pixels ≤ width_of chunk.region
  pub in_window : (x +ℤ pos piece.pixels) ≤ℤ (window.x1 +ℤ pos 1)
  pub above : piece.above ≡ sum (take (row_start chunk.region y) chunk.content.counts)
  pub row : piece.row ≡ samples_between chunk.content.counts (row_start chunk.region y) (row_start chunk.region y + width_of chunk.region)
  pub left : piece.left ≡ samples_between chunk.content.counts (row_start chunk.region y) piece.first
  pub samples : piece.samples ≡ samples_between chunk.content.counts piece.first (piece.first + piece.pixels)

-- the same of the chunk that the piece names
pub record IsPieceAt (window : Box2i) (chunks : List DeepChunk) (x y : ℤ) (piece : Piece) : Type 0 where
  pub there : piece.chunk < length chunks
  pub is : IsPieceIn (chunk_at chunks piece.chunk) window x y piece

pub record IsPiece (window : Box2i) (chunks : List DeepChunk) (piece : Piece) : Type 0 where
  pub x : ℤ
  pub y : ℤ
  pub is : IsPieceAt window chunks x y piece

-- what is made of a piece is what its pixels give
pub record GivesPieces (window : Box2i) (chunks : List DeepChunk) (of_piece : Piece → List ℕ) (of_pixel : ℤ → ℤ → List ℕ) : Type 0 where
  pub each : (x y : ℤ) (piece : Piece) → IsPieceAt window chunks x y piece → of_piece piece ≡ along_row of_pixel x y piece.pixels

-- pieces are those of the first rows of a window and the first columns of the next one: whatever each gives, together
-- they give what these pixels do
pub record ArePieces (window : Box2i) (chunks : List DeepChunk) (rows columns : ℕ) (pieces : List Piece) : Type 0 where
  pub each : All (IsPiece window chunks) pieces
  pub many : sum_by (λ piece. piece.pixels) pieces ≡ rows * width_of window + columns
  pub whole : (of_piece : Piece → List ℕ) (of_pixel : ℤ → ℤ → List ℕ) → GivesPieces window chunks of_piece of_pixel
      → flat_map of_piece pieces ≡ along_rows of_pixel window rows ++ along_row of_pixel window.x0 (window.y0 +ℤ pos rows) columns

-- ---- what is copied of a piece

-- its counts
abbrev pub counts_of : List DeepChunk → Piece → List ℕ
counts_of chunks piece = take piece.pixels (drop piece.first (chunk_at chunks piece.chunk).content.counts)

-- where its samples begin, and its samples
abbrev pub place_of : Sizes → Piece → ℕ
place_of sizes piece = piece.above * sizes.all + piece.row * sizes.earlier + piece.left * sizes.own

abbrev pub samples_of : List DeepChunk → Sizes → Piece → List ℕ
samples_of chunks sizes piece =
    take (piece.samples * sizes.own) (drop (place_of sizes piece) (chunk_at chunks piece.chunk).content.samples)

-- its chunk has these counts, and these samples
pub record HasCounts (chunks : List DeepChunk) (piece : Piece) : Type 0 where
  pub there : piece.chunk < length chunks
  pub room : piece.first + piece.pixels ≤ length (chunk_at chunks piece.chunk).content.counts
  pub small : length (chunk_at chunks piece.chunk).content.counts ≤ 2 ^ 24

pub record HasSamples (chunks : List DeepChunk) (sizes : Sizes) (piece : Piece) : Type 0 where
  pub there : piece.chunk < length chunks
  pub room : place_of sizes piece + piece.samples * sizes.own ≤ length (chunk_at chunks piece.chunk).content.samples
  pub small : length (chunk_at chunks piece.chunk).content.samples ≤ 2 ^ 26

-- the first n channels have the samples of the pieces, behind those that they had; the others have what they had
pub record ArePushed (channels : List Channel) (chunks : List DeepChunk) (pieces : List Piece) (old new : List (List ℕ)) (n : ℕ) : Type 0 where
  pub many : length new ≡ length old
  pub added : (c : ℕ) → c < n → slice_index_or new c [] ≡ slice_index_or old c [] ++ flat_map (samples_of chunks (sizes_of channels c)) pieces
  pub left : (c : ℕ) → n ≤ c → slice_index_or new c [] ≡ slice_index_or old c []
