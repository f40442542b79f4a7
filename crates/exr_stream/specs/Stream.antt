-- A file that is read chunk by chunk.
use Rattle.std.specs.Prelude.{◌≡◌, ◌*◌, ◌≤◌, ◌^◌, ℕ, IsTrue, List, length, take, drop, map, sum_by, All, Result, Ok, Err}
use Rattle.exr_base.specs.declared.refusal.Refusal.{Refusal}
use Rattle.exr_base.specs.declared.refusal.Refusal.TheVariants.{Fault, NoMemory}
use Rattle.exr_block.specs.declared.fault.ChunkFault.{ChunkFault}
use Rattle.exr_header.specs.Head.{Head, head_of}
use Rattle.exr_chunks.specs.Heads.{chunk_count_of, IsPicture}
use Rattle.exr_chunks.specs.Part.{without_attributes}
use Rattle.exr_chunks.specs.Sizes.{IsMeasured}
use Rattle.exr_outside.specs.Source.{SourceMeaning, IsSameSource}
use Rattle.exr_stream.specs.declared.fault.FetchFault.{FetchFault}
use Rattle.exr_stream.specs.declared.fault.FetchFault.TheVariants as fetch
use Rattle.exr_stream.specs.declared.front.Front.{Front}
use Rattle.exr_stream.specs.Chunk.{Opened}
pub use Rattle.exr_opening.specs.Opening.{IsWhyNot, OwesRead}

-- what contracts see of a stream: its source, the head of the file and how many bytes the head fills
pub record StreamView (S : Type 0) : Type 0 where
  pub source : S
  pub head : Head
  pub head_bytes : ℕ

-- the file of a stream, where the source's content is known
abbrev pub file_of : {S : Type 0} → SourceMeaning S → StreamView S → Opened
file_of means s = record { content = means.content s.source; head = s.head; head_bytes = s.head_bytes }

-- the head is that of the source's content, where the content is known
abbrev pub HasHead : {S : Type 0} → SourceMeaning S → StreamView S → Type 0
HasHead means s = IsTrue means.tells → head_of (means.content s.source) ≡ Ok (s.head, s.head_bytes)

-- a stream of the same file
pub record IsSameStream {S : Type 0} (means : SourceMeaning S) (old new : StreamView S) : Type 0 where
  pub source : IsSameSource means old.source new.source
  pub head : new.head ≡ old.head
  pub head_bytes : new.head_bytes ≡ old.head_bytes

-- ---- answers

-- a refused fetch has the fault of the chunk; a failed read and want of memory say nothing
abbrev pub RefusesFetch : {A : Type 0} → Refusal FetchFault → Result A ChunkFault → Type 0
RefusesFetch (Fault (fetch.Chunk f)) chunk = chunk ≡ Err f
RefusesFetch (Fault fetch.Read) chunk = Unit {0}
RefusesFetch NoMemory chunk = Unit {0}

-- what a fetch answered, seen by view, is the chunk's
abbrev pub Fetches : {X A : Type 0} → (X → A) → Result X (Refusal FetchFault) → Result A ChunkFault → Type 0
Fetches view (Ok x) chunk = chunk ≡ Ok (view x)
Fetches view (Err e) chunk = RefusesFetch e chunk

-- a failed read owes a rise
abbrev pub OwesFetch : {T : Type 0} → Result T (Refusal FetchFault) → Type 0 → Type 0
OwesFetch (Err (Fault fetch.Read)) rose = rose
OwesFetch other rose = Unit {0}

-- a failed read owes a rise, and no fault of a chunk comes
abbrev pub OnlyReads : {T : Type 0} → Result T (Refusal FetchFault) → Type 0 → Type 0
OnlyReads (Ok x) rose = Unit {0}
OnlyReads (Err (Fault fetch.Read)) rose = rose
OnlyReads (Err (Fault (fetch.Chunk f))) rose = ⊥
OnlyReads (Err NoMemory) rose = Unit {0}

-- ---- what is read before any chunk

-- its numbers are those of its head, and its headers are those of a head
pub record IsFront (f : Front) : Type 0 where
  pub small : f.head_bytes ≤ 2 ^ 24
  pub geometry : f.geometry ≡ map without_attributes f.head.parts
  pub pictures : All IsPicture f.head.parts
  pub measured : All IsMeasured f.head.parts

-- it is that of a content: the head, the length, and of the tables as much as is there
pub record IsFrontOf (f : Front) (content : List ℕ) : Type 0 where
  pub head : head_of content ≡ Ok (f.head, f.head_bytes)
  pub length : f.length ≡ length content
  pub tables : f.tables.items ≡ take (8 * sum_by chunk_count_of f.head.parts) (drop f.head_bytes content)
