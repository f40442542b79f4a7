-- A chunk in a file: its data, or the first thing that is wrong with it (the order is this project's own). File Layout,
-- "Component Four: Offset Tables", "Chunk Layout" and "Deep Data Blocks".
use Rattle.std.specs.Prelude.{◌==◌, ◌+◌, nat_le, bytes_eq, ℕ, Bool, true, false, List, length, take, drop, Result, Ok, Err, if◌then◌else◌}
use Rattle.std.specs.Int.{w32, w64, from_le_bytes}
use Rattle.exr_base.specs.Refusal.{◌>>=◌}
use Rattle.exr_base.specs.declared.method.Method.{Method}
use Rattle.exr_deep.specs.Body.{DeepBody}
use Rattle.exr_block.specs.declared.fault.ChunkFault.{ChunkFault}
use Rattle.exr_block.specs.declared.fault.ChunkFault.TheVariants.{Unwritten, Outside, WrongPlace, WrongSize}
use Rattle.exr_block.specs.declared.sizes.DeepSizes.{DeepSizes}
use Rattle.exr_block.specs.Body.{Stored, flat_data, deep_data}
use Rattle.exr_block.specs.Sizes.{is_size, are_sizes}
use Rattle.exr_header.specs.Head.{Head}
use Rattle.exr_chunks.specs.Heads.{Header, is_deep}
use Rattle.exr_chunks.specs.Region.{header_at, chunk_bytes_of, place_of}
use Rattle.exr_chunks.specs.Table.{entry_place}
use Rattle.exr_chunks.specs.Fields.{chunk_fields}

-- a file whose head was read: its bytes, its head, and how many bytes the head fills
pub record Opened : Type 0 where
  pub content : List ℕ
  pub head : Head
  pub head_bytes : ℕ

-- the header of a part
abbrev pub header_in : Opened → ℕ → Header
header_in file part = header_at file.head.parts part

-- ---- the entry of a chunk

-- a value that passes a test, or the fault of one that does not
abbrev pub tested : {A : Type 0} → ChunkFault → Bool → A → Result A ChunkFault
tested fault passes x = if passes then Ok x else Err fault

-- the first bytes of some, where there are so many
unfoldable pub first_bytes : ℕ → List ℕ → Result (List ℕ) ChunkFault
first_bytes count bytes = tested Outside (nat_le count (length bytes)) (take count bytes)

-- an entry of a table of offsets: the place of a chunk, and 0 where the chunk was not written
abbrev pub written_entry : ℕ → Result ℕ ChunkFault
written_entry entry = if entry == 0 then Err Unwritten else Ok entry

-- the entry that stands at the front of some bytes
unfoldable pub entry_in : List ℕ → Result ℕ ChunkFault
entry_in bytes = first_bytes 8 bytes >>= λ eight. written_entry (from_le_bytes w64 eight)

-- ---- the sizes of the data of a chunk

-- the bytes of the sizes, which are so many and follow the fields that name the chunk
unfoldable pub sizes_after : List ℕ → ℕ → List ℕ → Result (List ℕ) ChunkFault
sizes_after fields count bytes =
    first_bytes (length fields + count) bytes >>= λ front.
    tested WrongPlace (bytes_eq (take (length fields) front) fields) (drop (length fields) front)

-- a size that the data may have where the raw data has so many bytes
abbrev pub or_wrong_size : Method → ℕ → ℕ → Result ℕ ChunkFault
or_wrong_size method raw size = tested WrongSize (is_size method raw size) size

-- the size of the data of a chunk that is not deep
unfoldable pub size_in : List ℕ → Method → ℕ → List ℕ → Result ℕ ChunkFault
size_in fields method raw bytes =
    sizes_after fields 4 bytes >>= λ four. or_wrong_size method raw (from_le_bytes w32 four)

-- the three sizes of the data of a deep chunk, in 24 bytes
unfoldable pub three_sizes : List ℕ → DeepSizes
three_sizes bytes = record {
  table = from_le_bytes w64 (take 8 bytes);
  samples = from_le_bytes w64 (take 8 (drop 8 bytes));
  unpacked = from_le_bytes w64 (take 8 (drop 16 bytes));
}

-- sizes that the data may have where the raw table has so many bytes
abbrev pub or_wrong_sizes : Method → ℕ → DeepSizes → Result DeepSizes ChunkFault
or_wrong_sizes method raw sizes = tested WrongSize (are_sizes method raw sizes) sizes

-- the sizes of the data of a deep chunk
unfoldable pub deep_sizes_in : List ℕ → Method → ℕ → List ℕ → Result DeepSizes ChunkFault
deep_sizes_in fields method raw bytes =
    sizes_after fields 24 bytes >>= λ found. or_wrong_sizes method raw (three_sizes found)

-- ---- the data of the chunk that stands at the front of some bytes: its fields, the sizes of its data, and its data

-- of a chunk that is not deep
unfoldable pub data_in : List ℕ → Method → ℕ → List ℕ → Result (List ℕ) ChunkFault
data_in fields method raw bytes =
    size_in fields method raw bytes >>= λ size. first_bytes size (drop (length fields + 4) bytes)

-- a table and samples of these sizes, the one behind the other
abbrev pub body_in : DeepSizes → List ℕ → DeepBody
body_in sizes bytes = record { table = take sizes.table bytes; samples = drop sizes.table bytes; unpacked = sizes.unpacked }

-- a table and samples of these sizes at the front of some bytes
unfoldable pub sized_body : DeepSizes → List ℕ → Result DeepBody ChunkFault
sized_body sizes bytes = first_bytes (sizes.table + sizes.samples) bytes >>= λ found. Ok (body_in sizes found)

-- of a deep chunk
unfoldable pub deep_in : List ℕ → Method → ℕ → List ℕ → Result DeepBody ChunkFault
deep_in fields method raw bytes =
    deep_sizes_in fields method raw bytes >>= λ sizes. sized_body sizes (drop (length fields + 24) bytes)

-- of a chunk that is deep, or is not
unfoldable pub stored_in : Bool → List ℕ → Method → ℕ → List ℕ → Result Stored ChunkFault
stored_in false fields method raw bytes = data_in fields method raw bytes >>= λ found. Ok (flat_data found)
stored_in true fields method raw bytes = deep_in fields method raw bytes >>= λ found. Ok (deep_data found)

-- the data of chunk i of a part of a file
unfoldable pub chunk_of : Opened → ℕ → ℕ → Result Stored ChunkFault
chunk_of file part i =
    entry_in (drop (entry_place file.head.parts file.head_bytes part i) file.content) >>= λ entry.
    stored_in (is_deep (header_in file part).kind) (chunk_fields file.head.multi part (place_of (header_in file part) i)) (header_in file part).method (chunk_bytes_of (header_in file part) i) (drop entry file.content)
