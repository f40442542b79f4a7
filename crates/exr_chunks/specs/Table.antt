-- The offset tables: one per part, in the order of the parts, after the headers. File Layout, "Component Four: Offset
-- Tables".
use Rattle.std.specs.Prelude.{◌+◌, ◌*◌, ℕ, List, take, drop, sum_by}
use Rattle.std.specs.Int.{w64, from_le_bytes}
use Rattle.exr_chunks.specs.Heads.{Header, chunk_count_of}

-- the chunks of the parts before one
abbrev pub chunks_before : List Header → ℕ → ℕ
chunks_before parts part = sum_by chunk_count_of (take part parts)

-- the offset of a chunk's entry in a file, after headers of some bytes
abbrev pub entry_place : List Header → ℕ → ℕ → ℕ → ℕ
entry_place parts head_bytes part i = head_bytes + 8 * (chunks_before parts part + i)

-- the entry of a chunk: the number in its eight bytes
abbrev pub table_entry : List ℕ → List Header → ℕ → ℕ → ℕ → ℕ
table_entry file parts head_bytes part i = from_le_bytes w64 (take 8 (drop (entry_place parts head_bytes part i) file))
