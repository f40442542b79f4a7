-- Which sizes the data of a chunk may have. File Layout, "Chunk Layout": data that compression does not make smaller is
-- stored raw, so no data is larger than raw data. In a deep chunk this holds of the table and of the samples.
use Rattle.std.specs.Prelude.{◌==◌, ◌&&◌, ◌*◌, ◌^◌, nat_le, ℕ, Bool, true, false, List, length}
use Rattle.exr_base.specs.declared.shape.Box2i.{Box2i}
use Rattle.exr_base.specs.declared.channel.Channel.{Channel}
use Rattle.exr_base.specs.declared.method.Method.{Method}
use Rattle.exr_base.specs.declared.method.Method.TheVariants.{No}
use Rattle.exr_base.specs.Shape.{raw_size_of}
use Rattle.exr_deep.specs.Body.{DeepBody}
use Rattle.exr_deep.specs.Deep.{pixels_of}
use Rattle.exr_block.specs.declared.sizes.DeepSizes.{DeepSizes}
use Rattle.exr_block.specs.Body.{Stored, flat_data, deep_data, is_deep_data}

-- a size that data may have where the raw data has so many bytes: never more, and without compression exactly as many
abbrev pub is_size : Method → ℕ → ℕ → Bool
is_size No raw size = size == raw
is_size _ raw size = nat_le size raw

-- the raw bytes of a chunk of a part that is not deep, and of a deep one those of its sample count table
abbrev pub raw_bytes_of : Bool → List Channel → Box2i → ℕ
raw_bytes_of false channels region = raw_size_of channels region
raw_bytes_of true channels region = 4 * pixels_of region

-- the sizes of a deep chunk's data
abbrev pub sizes_of : DeepBody → DeepSizes
sizes_of body = record { table = length body.table; samples = length body.samples; unpacked = body.unpacked }

-- sizes that they may have where the raw table has so many bytes. That unpacked samples have at most 2^26 is this
-- project's rule (own)
abbrev pub are_sizes : Method → ℕ → DeepSizes → Bool
are_sizes method raw sizes =
    is_size method raw sizes.table && is_size method sizes.unpacked sizes.samples && nat_le sizes.unpacked (2 ^ 26)

-- data of sizes that it may have, where the raw data, or the raw table, has so many bytes
abbrev pub has_size : Method → ℕ → Stored → Bool
has_size method raw (flat_data bytes) = is_size method raw (length bytes)
has_size method raw (deep_data body) = are_sizes method raw (sizes_of body)

-- the data of a chunk has such sizes for its channels and its region
abbrev pub sizes_fit : Method → List Channel → Box2i → Stored → Bool
sizes_fit method channels region stored = has_size method (raw_bytes_of (is_deep_data stored) channels region) stored
