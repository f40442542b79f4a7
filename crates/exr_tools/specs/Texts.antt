-- What the program prints, and the status that it ends with.
use Rattle.std.specs.Prelude.{ℕ, List, [], ◌∷◌, ◌++◌, codes, decimal, length, slice_index}
use Rattle.std.specs.List.{flat_map, range_with_len}
use Rattle.exr_chunks.specs.Heads.{Header, chunk_count_of}
use Rattle.exr_chunks.specs.Region.{header_at}
use Rattle.exr_attributes.specs.Fault.{number_of as head_number_of}
use Rattle.exr_block.specs.Fault.{number_of as chunk_number_of}
use Rattle.exr_request.specs.Fault.{request_number_of}
use Rattle.exr_tools.specs.declared.stop.Stop.{Stop}
use Rattle.exr_tools.specs.declared.stop.Stop.TheVariants.{NoMemory, Words, File, Read, Write, Request}
use Rattle.exr_tools.specs.declared.stop.FileFault.{FileFault}
use Rattle.exr_tools.specs.declared.stop.FileFault.TheVariants.{Head, Chunk}

-- the line that an extraction of so many bytes prints
abbrev pub extract_line : ℕ → List ℕ
extract_line count = codes "extract bytes " ++ decimal count ++ 10 ∷ []

-- the line that a test prints for a part of so many chunks, of which so many are unread
abbrev pub part_line : ℕ → ℕ → ℕ → List ℕ
part_line part chunks unread =
    codes "part " ++ (decimal part ++ (codes " chunks " ++ (decimal chunks ++ (codes " unread " ++ (decimal unread ++ 10 ∷ [])))))

-- the line of a part of a file
abbrev pub line_of_part : List Header → List ℕ → ℕ → List ℕ
line_of_part parts unread part = part_line part (chunk_count_of (header_at parts part)) (slice_index unread part)

-- the report on all parts of a file
unfoldable pub report_of : List Header → List ℕ → List ℕ
report_of parts unread =
    flat_map (line_of_part parts unread) (range_with_len 0 (length parts)) ++ (codes "ok" ++ 10 ∷ [])

-- the status of a stop
abbrev pub status_of : Stop → ℕ
status_of NoMemory = 1
status_of (Words position) = 2
status_of (File file fault) = 3
status_of Read = 4
status_of Write = 5
status_of (Request fault) = 6

-- the line of a fault of a file
abbrev pub file_line_of : ℕ → FileFault → List ℕ
file_line_of file (Head fault) = codes "exr: file " ++ (decimal file ++ (codes " head fault " ++ (decimal (head_number_of fault) ++ 10 ∷ [])))
file_line_of file (Chunk part index fault) =
    codes "exr: file " ++ (decimal file ++ (codes " part " ++ (decimal part ++ (codes " chunk " ++ (decimal index ++ (codes " fault " ++ (decimal (chunk_number_of fault) ++ 10 ∷ [])))))))

-- the line of a stop
abbrev pub line_of : Stop → List ℕ
line_of NoMemory = codes "exr: no memory" ++ 10 ∷ []
line_of (Words position) = codes "exr: word " ++ decimal position ++ 10 ∷ []
line_of (File file fault) = file_line_of file fault
line_of Read = codes "exr: read fault" ++ 10 ∷ []
line_of Write = codes "exr: write fault" ++ 10 ∷ []
line_of (Request fault) = codes "exr: request fault " ++ (decimal (request_number_of fault) ++ 10 ∷ [])
