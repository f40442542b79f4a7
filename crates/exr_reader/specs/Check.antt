-- Testing all chunks of a file (own).
use Rattle.std.specs.Prelude.{◌≡◌, ◌<◌, ◌+◌, ℕ, zero, suc, Bool, true, false, List, length, map, Result, Ok, Err, if◌then◌else◌}
use Rattle.std.specs.List.{range_with_len}
use Rattle.exr_block.specs.declared.fault.ChunkFault.{ChunkFault}
use Rattle.exr_block.specs.declared.fault.ChunkFault.TheVariants as fault
use Rattle.exr_block.specs.Body.{Content}
use Rattle.exr_chunks.specs.Heads.{chunk_count_of}
use Rattle.exr_stream.specs.Chunk.{Opened, header_in}
use Rattle.exr_reader.specs.declared.sound.CheckStop.{CheckStop}
use Rattle.exr_reader.specs.declared.sound.CheckStop.TheVariants as stop
use Rattle.exr_reader.specs.Sample.{raw_of}

-- a chunk is unread where its data is packed by a method that is not read
abbrev pub is_unread : Result Content ChunkFault → Bool
is_unread (Err (fault.Unsupported method)) = true
is_unread other = false

-- a chunk is sound where it has raw content or is unread
abbrev pub is_sound : Result Content ChunkFault → Bool
is_sound (Ok content) = true
is_sound (Err (fault.Unsupported method)) = true
is_sound (Err other) = false

-- how many of the first n chunks of a part are unread
unfoldable pub unread_among : Opened → ℕ → ℕ → ℕ
unread_among file part zero = 0
unread_among file part (suc n) = unread_among file part n + (if is_unread (raw_of file part n) then 1 else 0)

-- how many of all of them, part by part
abbrev pub unread_of : Opened → ℕ → ℕ
unread_of file part = unread_among file part (chunk_count_of (header_in file part))

abbrev pub unread_counts : Opened → List ℕ
unread_counts file = map (unread_of file) (range_with_len 0 (length file.head.parts))

-- the first n chunks of a part are sound; all chunks of the first n parts; all chunks of the file
abbrev pub AreSound : Opened → ℕ → ℕ → Type 0
AreSound file part n = (i : ℕ) → i < n → is_sound (raw_of file part i) ≡ true

abbrev pub ArePartsSound : Opened → ℕ → Type 0
ArePartsSound file n = (part : ℕ) → part < n → AreSound file part (chunk_count_of (header_in file part))

abbrev pub IsSoundFile : Opened → Type 0
IsSoundFile file = ArePartsSound file (length file.head.parts)

-- an answer is a fault that is not sound
pub record IsUnsound (answer : Result Content ChunkFault) (fault : ChunkFault) : Type 0 where
  pub found : answer ≡ Err fault
  pub unsound : is_sound answer ≡ false

-- the first chunk of a part that is not sound, and its fault
pub record IsFirstUnsoundOf (file : Opened) (part i : ℕ) (fault : ChunkFault) : Type 0 where
  pub within : i < chunk_count_of (header_in file part)
  pub broken : IsUnsound (raw_of file part i) fault
  pub before : AreSound file part i

-- the first of a file, by its part and its index
pub record IsFirstUnsound (file : Opened) (part i : ℕ) (fault : ChunkFault) : Type 0 where
  pub there : part < length file.head.parts
  pub chunk : IsFirstUnsoundOf file part i fault
  pub earlier : ArePartsSound file part

-- the fact that goes with each stop; want of memory needs none
abbrev pub HasCheckCause : CheckStop → (ℕ → ℕ → ChunkFault → Type 0) → Type 0 → Type 0
HasCheckCause stop.NoMemory chunk rose = Unit {0}
HasCheckCause stop.Read chunk rose = rose
HasCheckCause (stop.Chunk part index fault) chunk rose = chunk part index fault
