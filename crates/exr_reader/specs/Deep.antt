-- The samples of a deep part, one pixel at a time, and what reading a window of it gives. File Layout, "Deep Data Blocks";
-- how much a window may have is this project's (own).
use Rattle.std.specs.Prelude.{◌≡◌, ◌≢◌, ◌<◌, ◌≤◌, ◌<ℤ◌, ◌≤ℤ◌, ◌+◌, ◌*◌, ◌^◌, ℕ, ℤ, List, [], length, take, slice_index, true, Result, Ok, Err}
use Rattle.std.specs.Int.{int_min, int_max}
use Rattle.std.specs.List.{HoldsAt, sum_by}
use Rattle.exr_base.specs.declared.shape.Box2i.{Box2i}
use Rattle.exr_base.specs.Boxes.{IsInside}
use Rattle.exr_base.specs.Shape.{IsRegion}
use Rattle.exr_block.specs.declared.fault.ChunkFault.{ChunkFault}
use Rattle.exr_block.specs.Body.{Content, flat_content, deep_content}
use Rattle.exr_deep.specs.Body.{DeepContent, content_of}
use Rattle.exr_deep.specs.Deep.{fits, pixels_of}
use Rattle.exr_image.specs.declared.chunk.DeepChunk.{DeepChunk}
use Rattle.exr_image.specs.declared.image.DeepImage.{DeepImage}
use Rattle.exr_image.specs.Pixel.{count_in, pixel_samples_in}
use Rattle.exr_image.specs.Image.{DeepPixels, IsImage}
use Rattle.exr_chunks.specs.Pixels.{chunk_with}
use Rattle.exr_chunks.specs.Heads.{Header, IsPicture}
use Rattle.exr_chunks.specs.Region.{region_of}
use Rattle.exr_chunks.specs.Window.{chunks_of_window}
use Rattle.exr_stream.specs.Chunk.{Opened, header_in}
use Rattle.exr_reader.specs.declared.deep.DeepStop.{DeepStop}
use Rattle.exr_reader.specs.declared.deep.DeepStop.TheVariants as stop
use Rattle.exr_reader.specs.declared.cause.ReadCause.{ReadCause}
use Rattle.exr_reader.specs.declared.cause.ReadCause.TheVariants as cause
use Rattle.exr_reader.specs.Sample.{raw_of}
use Rattle.exr_reader.specs.Window.{HaveDataOf, IsFirstFaultOf}

-- the counts and the samples of a deep chunk; there are none where it has a fault
abbrev pub deep_or_none : Result Content ChunkFault → DeepContent
deep_or_none (Ok (deep_content content)) = content
deep_or_none (Ok (flat_content bytes)) = record { counts = []; samples = [] }
deep_or_none (Err fault) = record { counts = []; samples = [] }

abbrev pub deep_of_chunk : Opened → ℕ → ℕ → DeepContent
deep_of_chunk file part i = deep_or_none (raw_of file part i)

-- the pixels of a deep part: those of pixel (x, y) are in the one chunk whose region has it
abbrev pub pixels_in : Opened → ℕ → DeepPixels
pixels_in file part = record {
  count = λ x y. count_in (region_of (header_in file part) (chunk_with (header_in file part) x y)) (deep_of_chunk file part (chunk_with (header_in file part) x y)) x y;
  samples = λ c x y. pixel_samples_in (header_in file part).channels (region_of (header_in file part) (chunk_with (header_in file part) x y)) (deep_of_chunk file part (chunk_with (header_in file part) x y)) c x y;
}

-- the image of a window of a part
abbrev pub IsDeepImage : Opened → ℕ → Box2i → DeepImage → Type 0
IsDeepImage file part window image = IsImage (pixels_in file part) (header_in file part).channels window image

-- ---- how much a window has

-- the bytes of the samples of a chunk, unpacked
abbrev pub samples_size : Opened → ℕ → ℕ → ℕ
samples_size file part i = length (deep_of_chunk file part i).samples

-- four bytes for each pixel of a window, and the samples of the first n chunks of a list
unfoldable pub size_so_far : Opened → ℕ → Box2i → List ℕ → ℕ → ℕ
size_so_far file part window chunks n = 4 * pixels_of window + sum_by (samples_size file part) (take n chunks)

-- with none of the first n chunks of a list there are more than 2^30 bytes
abbrev pub AreSmall : Opened → ℕ → Box2i → List ℕ → ℕ → Type 0
AreSmall file part window chunks n = (r : ℕ) → r < n → size_so_far file part window chunks (r + 1) ≤ 2 ^ 30

-- ---- why a window cannot be read

-- the first fault of the chunks of a list, before which there are not too many bytes
pub record IsDeepFault (file : Opened) (part : ℕ) (window : Box2i) (chunks : List ℕ) (i : ℕ) (fault : ChunkFault) : Type 0 where
  pub rank : ℕ
  pub first : IsFirstFaultOf file part chunks rank i fault
  pub small : AreSmall file part window chunks rank

-- the first chunk with which there are too many bytes; it and those before it have content
pub record IsTooLarge (file : Opened) (part : ℕ) (window : Box2i) (chunks : List ℕ) (i : ℕ) : Type 0 where
  pub rank : ℕ
  pub within : rank < length chunks
  pub index : slice_index chunks rank ≡ i
  pub content : HaveDataOf file part chunks (rank + 1)
  pub small : AreSmall file part window chunks rank
  pub large : 2 ^ 30 < size_so_far file part window chunks (rank + 1)

-- ---- what reading goes by

-- a chunk of a part: its region, and counts and samples that fit it, which are the chunk's own where the file is known
pub record IsDeepChunk (told : Type 0) (file : Opened) (part index : ℕ) (chunk : DeepChunk) : Type 0 where
  pub region : chunk.region ≡ region_of (header_in file part) index
  pub is_region : IsRegion chunk.region
  pub inside : IsInside (header_in file part).window chunk.region
  pub fits : fits (header_in file part).channels chunk.region (content_of chunk.content) ≡ true
  pub content : told → raw_of file part index ≡ Ok (deep_content (content_of chunk.content))

-- those of a list of indexes from a rank on, as far as there are chunks
abbrev pub AreDeepChunks : Type 0 → Opened → ℕ → List ℕ → ℕ → List DeepChunk → Type 0
AreDeepChunks told file part indexes from chunks =
    (k : ℕ) → k < length chunks → HoldsAt (IsDeepChunk told file part (slice_index indexes (from + k))) chunks k

-- the chunks of a window within the data window
pub record IsMet (h : Header) (window : Box2i) (chunks : List ℕ) : Type 0 where
  pub picture : IsPicture h
  pub inside : IsInside h.window window
  pub are : chunks ≡ chunks_of_window h window

-- the first n chunks of a list were read: they have content, with none of them there are too many bytes, and so many there are
pub record AreRead (file : Opened) (part : ℕ) (window : Box2i) (chunks : List ℕ) (n size : ℕ) : Type 0 where
  pub content : HaveDataOf file part chunks n
  pub small : AreSmall file part window chunks n
  pub is : size ≡ size_so_far file part window chunks n

-- the chunks from one rank to another stand beside each other, and the next one does not stand beside them
pub record AreRow (h : Header) (chunks : List ℕ) (from to : ℕ) : Type 0 where
  pub some : from < to
  pub within : to ≤ length chunks
  pub beside : (r : ℕ) → from ≤ r → r < to → (region_of h (slice_index chunks r)).y0 ≡ (region_of h (slice_index chunks from)).y0
  pub last : to < length chunks → (region_of h (slice_index chunks to)).y0 ≢ (region_of h (slice_index chunks from)).y0

-- a line cuts the chunks at a rank: in the window, those before it end above the line, and the others begin at it or below
pub record AreCutAt (h : Header) (window : Box2i) (chunks : List ℕ) (rank : ℕ) (line : ℤ) : Type 0 where
  pub above : (r : ℕ) → r < rank → int_min (region_of h (slice_index chunks r)).y1 window.y1 <ℤ line
  pub below : (r : ℕ) → rank ≤ r → r < length chunks → line ≤ℤ int_max (region_of h (slice_index chunks r)).y0 window.y0

-- the lines of a window that a region has
pub record IsBand (region window band : Box2i) : Type 0 where
  pub left : band.x0 ≡ window.x0
  pub right : band.x1 ≡ window.x1
  pub up : band.y0 ≡ int_max region.y0 window.y0
  pub down : band.y1 ≡ int_min region.y1 window.y1

-- a cause of reading as a stop
abbrev pub stop_of_cause : ReadCause → DeepStop
stop_of_cause cause.NoMemory = stop.NoMemory
stop_of_cause cause.Read = stop.Read
stop_of_cause (cause.Chunk index fault) = stop.Chunk index fault

-- the fact that goes with each stop; want of memory needs none
abbrev pub HasDeepCause : DeepStop → (ℕ → ChunkFault → Type 0) → (ℕ → Type 0) → Type 0 → Type 0
HasDeepCause stop.NoMemory chunk large rose = Unit {0}
HasDeepCause stop.Read chunk large rose = rose
HasDeepCause (stop.Chunk index fault) chunk large rose = chunk index fault
HasDeepCause (stop.TooLarge index) chunk large rose = large index
