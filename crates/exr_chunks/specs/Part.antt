-- What is kept of a part: what its header says of where its chunks lie, and the numbers that follow from it.
use Rattle.std.specs.Prelude.{◌≡◌, ◌+◌, ◌≤◌, ◌<◌, ◌^◌, ℕ, List, [], length, get_or, map, All, sum_by}
use Rattle.exr_chunks.specs.declared.part.Part.{Part}
use Rattle.exr_chunks.specs.Heads.{Header, chunk_width, chunk_height, chunk_count_of, IsPicture}
use Rattle.exr_chunks.specs.RawBytes.{HasRawSizes}
use Rattle.exr_chunks.specs.Region.{across_of, down_of}
use Rattle.exr_chunks.specs.Sizes.{IsMeasured}
use Rattle.exr_chunks.specs.Table.{chunks_before}

-- a header without what a geometry does not keep
abbrev pub without_attributes : Header → Header
without_attributes h = record h { attributes = [] }

unfoldable pub header_of : Part → Header
header_of p = record {
  attributes = [];
  kind = p.kind;
  channels = p.channels.items;
  method = p.method;
  window = p.window;
  order = p.order;
  tiles = p.tiles;
}

-- the numbers of a part are those of its header
pub record IsPart (p : Part) : Type 0 where
  pub picture : IsPicture (header_of p)
  pub measured : IsMeasured (header_of p)
  pub columns : p.columns ≡ chunk_width (header_of p)
  pub rows : p.rows ≡ chunk_height (header_of p)
  pub sizes : HasRawSizes p.sizes (header_of p)
  pub across : p.across ≡ across_of (header_of p)
  pub down : p.down ≡ down_of (header_of p)
  pub count : p.count ≡ chunk_count_of (header_of p)
  pub few : p.first + p.count ≤ 2 ^ 20

abbrev pub headers_of : List Part → List Header
headers_of parts = map header_of parts

-- the parts of a file, each after those before it
pub record AreParts (parts : List Part) (all : ℕ) : Type 0 where
  pub each : All IsPart parts
  pub firsts : (k : ℕ) (d : Part) → k < length parts → (get_or parts k d).first ≡ chunks_before (headers_of parts) k
  pub total : all ≡ sum_by chunk_count_of (headers_of parts)
  pub few : all ≤ 2 ^ 20
  pub short : length parts ≤ 1024
