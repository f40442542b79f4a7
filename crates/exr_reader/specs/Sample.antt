-- The raw content of the chunks of a file, and its samples, one at a time. File Layout, "Chunk Layout" and "Regular scan
-- line image block layout".
use Rattle.std.specs.Prelude.{ℕ, ℤ, List, [], take, drop, Result, Ok, Err}
use Rattle.exr_base.specs.Channel.{bytes_of}
use Rattle.exr_base.specs.Refusal.{◌>>=◌}
use Rattle.exr_block.specs.declared.fault.ChunkFault.{ChunkFault}
use Rattle.exr_block.specs.Body.{Content, content_bytes}
use Rattle.exr_block.specs.Content.{raw_of_body}
use Rattle.exr_chunks.specs.Heads.{Header}
use Rattle.exr_chunks.specs.Pixels.{chunk_with}
use Rattle.exr_chunks.specs.Region.{region_of}
use Rattle.exr_stream.specs.Chunk.{Opened, header_in, chunk_of}
pub use Rattle.exr_base.specs.Channel.{channel_at}
unfoldable pub use Rattle.exr_base.specs.Shape.{raw_place_of}

-- the raw content of chunk i of a part, or the first thing that is wrong with the chunk
unfoldable pub raw_of : Opened → ℕ → ℕ → Result Content ChunkFault
raw_of file part i =
    chunk_of file part i >>= raw_of_body (header_in file part).method (header_in file part).channels (region_of (header_in file part) i)

-- the bytes of a chunk of a part that is not deep; there are none where it has a fault
abbrev pub raw_or_none : Result Content ChunkFault → List ℕ
raw_or_none (Ok content) = content_bytes content
raw_or_none (Err fault) = []

-- the sample of channel c at (x, y), of a chunk that has the pixel
abbrev pub sample_in : Header → ℕ → ℤ → ℤ → ℕ → List ℕ → List ℕ
sample_in h c x y i raw =
    take (bytes_of (channel_at h.channels c).kind) (drop (raw_place_of h.channels (region_of h i) c x y) raw)

-- the sample of channel c at a pixel (x, y) of the data window of a part that is not deep: in the one chunk whose region has the pixel
abbrev pub sample_of : Opened → ℕ → ℕ → ℤ → ℤ → List ℕ
sample_of file part c x y =
    sample_in (header_in file part) c x y (chunk_with (header_in file part) x y) (raw_or_none (raw_of file part (chunk_with (header_in file part) x y)))
