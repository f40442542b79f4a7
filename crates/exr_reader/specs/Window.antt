-- What reading a window of a part puts into the buffer of a layout (own).
use Rattle.std.specs.Prelude.{◌≡◌, ◌<◌, ◌≤◌, ◌/◌, ◌%◌, ◌^◌, ◌+◌, ℕ, ℤ, List, [], length, slice_index, slice_index_or, Option, Some, None, Ok, Err}
use Rattle.exr_base.specs.declared.shape.Box2i.{Box2i}
use Rattle.exr_base.specs.Shape.{raw_size_of}
use Rattle.exr_block.specs.declared.fault.ChunkFault.{ChunkFault}
use Rattle.exr_block.specs.Body.{flat_content}
use Rattle.exr_chunks.specs.Heads.{Header, chunk_count_of}
use Rattle.exr_chunks.specs.Region.{region_of}
use Rattle.exr_chunks.specs.Pixels.{chunk_with}
use Rattle.exr_outside.specs.Source.{SourceMeaning}
use Rattle.exr_stream.specs.Chunk.{Opened, header_in}
use Rattle.exr_stream.specs.Stream.{StreamView, file_of}
use Rattle.exr_layout.specs.declared.placement.Placement.{Placement}
use Rattle.exr_layout.specs.Validation.{Frame}
use Rattle.exr_layout.specs.Plan.{Matching}
use Rattle.exr_layout.specs.Place.{Byte, IsNamed, placement_at, placements_of, place_of}
use Rattle.exr_frame.specs.Buffer.{IsCopied, IsInRegion, chunk_byte}
use Rattle.exr_reader.specs.Sample.{raw_of, sample_of}
use Rattle.exr_reader.specs.Reading.{HasData}

-- what is read: a part of a file, into the buffer of a layout, each of whose slices has a channel of the part or none
pub record Target : Type 0 where
  pub file : Opened
  pub part : ℕ
  pub frame : Frame
  pub places : List (Option ℕ)

-- the part of a stream's file
abbrev pub target_of : {S : Type 0} → SourceMeaning S → StreamView S → ℕ → Frame → Matching → Target
target_of means s part frame plan =
    record { file = file_of means s; part = part; frame = frame; places = plan.channels }

-- ---- what the buffer holds

-- a byte of a sample where the slice has a channel, else of the fill, the low byte first
abbrev pub byte_by : (ℕ → ℤ → ℤ → List ℕ) → Placement → Option ℕ → Byte → ℕ
byte_by sample placement None k = placement.fill / 256 ^ k.byte % 256
byte_by sample placement (Some c) k = slice_index (sample c k.x k.y) k.byte

-- the samples being those of a part of a file
unfoldable pub file_byte : Target → Byte → ℕ
file_byte t k =
    byte_by (sample_of t.file t.part) (placement_at (placements_of t.frame.planes) k.slice) (slice_index_or t.places k.slice None) k

-- a byte that a layout names, of a pixel of one of the first n chunks of a list
pub record IsOfFirst (h : Header) (window : Box2i) (placements : List Placement) (chunks : List ℕ) (n : ℕ) (k : Byte) : Type 0 where
  pub named : IsNamed window placements k
  pub rank : ℕ
  pub there : rank < length chunks
  pub early : rank < n
  pub chunk : slice_index chunks rank ≡ chunk_with h k.x k.y

-- the samples of the first n chunks of a list were put, each in its place, and no other byte was changed
abbrev pub ArePut : Target → List ℕ → ℕ → List ℕ → List ℕ → Type 0
ArePut t chunks n old new =
    IsCopied (IsOfFirst (header_in t.file t.part) t.frame.window (placements_of t.frame.planes) chunks n) (place_of t.frame.window (placements_of t.frame.planes)) (file_byte t) old new

-- all samples of the window were put, and no other byte was changed
abbrev pub IsFilled : Target → List ℕ → List ℕ → Type 0
IsFilled t old new =
    IsCopied (IsNamed t.frame.window (placements_of t.frame.planes)) (place_of t.frame.window (placements_of t.frame.planes)) (file_byte t) old new

-- ---- faults

-- the first n chunks of a list have raw content
abbrev pub HaveDataOf : Opened → ℕ → List ℕ → ℕ → Type 0
HaveDataOf file part chunks n = (r : ℕ) → r < length chunks → r < n → HasData file part (slice_index chunks r)

-- the first fault of a list of chunks: the chunk of a rank has it, and all before have raw content
pub record IsFirstFaultOf (file : Opened) (part : ℕ) (chunks : List ℕ) (rank i : ℕ) (fault : ChunkFault) : Type 0 where
  pub within : rank < length chunks
  pub index : slice_index chunks rank ≡ i
  pub found : raw_of file part i ≡ Err fault
  pub before : HaveDataOf file part chunks rank

-- chunk i has the first fault, in the round that is met after so many whole ones
pub record IsStopAt (file : Opened) (part : ℕ) (chunks : List ℕ) (round rounds i : ℕ) (fault : ChunkFault) : Type 0 where
  pub rank : ℕ
  pub first : IsFirstFaultOf file part chunks rank i fault
  pub rounds_before : rounds ≡ rank / round

-- ---- what reading goes by

-- the indexes of a list are those of chunks
abbrev pub AreChunks : Header → List ℕ → Type 0
AreChunks h chunks = (r : ℕ) → r < length chunks → slice_index chunks r < chunk_count_of h

-- of the chunks of a list from one rank to another, the first one with a fault
pub record IsFaultFrom (file : Opened) (part : ℕ) (chunks : List ℕ) (from to i : ℕ) (fault : ChunkFault) : Type 0 where
  pub rank : ℕ
  pub behind : from ≤ rank
  pub within : rank < to
  pub index : slice_index chunks rank ≡ i
  pub found : raw_of file part i ≡ Err fault
  pub before : (r : ℕ) → from ≤ r → r < rank → HasData file part (slice_index chunks r)

-- the samples of a chunk were put from its raw data
abbrev pub IsChunkPut : Header → Frame → List (Option ℕ) → ℕ → List ℕ → List ℕ → List ℕ → Type 0
IsChunkPut h f places i raw old new =
    IsCopied (IsInRegion f.window (placements_of f.planes) (region_of h i)) (place_of f.window (placements_of f.planes)) (chunk_byte h.channels (region_of h i) raw (placements_of f.planes) places) old new

-- the raw content of the chunks of a list from a rank on, where the file is known
pub record AreRaw (told : Type 0) (file : Opened) (part : ℕ) (chunks : List ℕ) (from : ℕ) (raws : List (List ℕ)) : Type 0 where
  pub sizes : (k : ℕ) → k < length raws → length (slice_index_or raws k []) ≡ raw_size_of (header_in file part).channels (region_of (header_in file part) (slice_index chunks (from + k)))
  pub bytes : told → (k : ℕ) → k < length raws → raw_of file part (slice_index chunks (from + k)) ≡ Ok (flat_content (slice_index_or raws k []))
