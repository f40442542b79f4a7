-- Data that is stored raw or as run lengths. File Layout, "Chunk Layout": data that compression does not make smaller is
-- stored raw.
use Rattle.std.specs.Prelude.{ℕ, ◌==◌, nat_lt, List, length, Result, Ok, if◌then◌else◌}
use Rattle.exr_base.specs.declared.method.Method.{Method}
use Rattle.exr_base.specs.declared.method.Method.TheVariants as method
use Rattle.exr_rle.specs.Unpacked.{rle_of}
use Rattle.exr_rle.specs.Packed.{rle_pack_of}
use Rattle.exr_rle.specs.declared.broken.RleBroken.{RleBroken}

-- the raw data, so many bytes, of stored data: data of that size is raw, other data is run lengths
unfoldable pub unpacked_of : ℕ → List ℕ → Result (List ℕ) RleBroken
unpacked_of size stored = if length stored == size then Ok stored else rle_of stored size

-- raw data as a method packs it
abbrev pub packed_by : Method → List ℕ → List ℕ
packed_by method.Rle raw = rle_pack_of raw
packed_by _ raw = raw

-- the data that is stored: packed where that is smaller
unfoldable pub stored_of : Method → List ℕ → List ℕ
stored_of method raw = if nat_lt (length (packed_by method raw)) (length raw) then packed_by method raw else raw
