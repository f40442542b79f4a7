-- What reading answers.
use Rattle.std.specs.Prelude.{◌≡◌, ℕ, Ok}
use Rattle.exr_block.specs.declared.fault.ChunkFault.{ChunkFault}
use Rattle.exr_block.specs.Body.{Content}
use Rattle.exr_stream.specs.Chunk.{Opened}
use Rattle.exr_reader.specs.declared.cause.ReadCause.{ReadCause}
use Rattle.exr_reader.specs.declared.cause.ReadCause.TheVariants as cause
use Rattle.exr_reader.specs.Sample.{raw_of}

-- a chunk has raw content
abbrev pub HasData : Opened → ℕ → ℕ → Type 0
HasData file part i = (content : Content) × (raw_of file part i ≡ Ok content)

-- the fact that goes with each cause; want of memory needs none
abbrev pub HasCause : ReadCause → (ℕ → ChunkFault → Type 0) → Type 0 → Type 0
HasCause cause.NoMemory chunk rose = Unit {0}
HasCause cause.Read chunk rose = rose
HasCause (cause.Chunk index fault) chunk rose = chunk index fault
