-- The raw bytes of a region, copied out of a buffer (own).
use Rattle.std.specs.Prelude.{◌≡◌, ◌<◌, ◌+◌, ◌*◌, ◌<ℤ◌, ◌+ℤ◌, ℕ, ℤ, pos, List, length, slice_index, slice_index_or, Option, Some, None}
use Rattle.exr_base.specs.declared.shape.Box2i.{Box2i}
use Rattle.exr_base.specs.declared.channel.Channel.{Channel}
use Rattle.exr_base.specs.Channel.{bytes_of}
use Rattle.exr_base.specs.Shape.{raw_size_of}
use Rattle.exr_layout.specs.declared.placement.Placement.{Placement}
use Rattle.exr_base.specs.Sampling.{count_before}
use Rattle.exr_layout.specs.Place.{Byte, placement_at, place_of}
use Rattle.exr_base.specs.Shape.{raw_place_of}
use Rattle.exr_frame.specs.Buffer.{IsInRegion}
use Rattle.exr_frame.specs.Rows.{IsOfChannel, row_place}

-- the raw bytes of a region as a buffer has them: as many as the region has, and each byte of a slice that holds a
-- channel is found where that channel's samples stand in them
pub record IsGathered (window : Box2i) (placements : List Placement) (channels : List Channel) (region : Box2i) (places : List (Option ℕ)) (from raw : List ℕ) : Type 0 where
  pub size : length raw ≡ raw_size_of channels region
  pub bytes : (k : Byte) (c : ℕ) → IsInRegion window placements region k → slice_index_or places k.slice None ≡ Some c
      → slice_index raw (raw_place_of channels region c k.x k.y + k.byte) ≡ slice_index from (place_of window placements k)

-- ---- what was read so far

-- `more` bytes were appended to a list: among them some, each in its place
pub record IsGrown {K : Type 0} (which : K → Type 0) (place value : K → ℕ) (more : ℕ) (old new : List ℕ) : Type 0 where
  pub long : length new ≡ length old + more
  pub kept : (at : ℕ) → at < length old → slice_index new at ≡ slice_index old at
  pub within : (k : K) → which k → place k < length new
  pub read : (k : K) → which k → slice_index new (place k) ≡ value k

-- bytes of samples that lie a stride apart
abbrev pub strided_byte : List ℕ → ℕ → ℕ → ℕ × ℕ → ℕ
strided_byte from at stride k = slice_index from (row_place at stride k)

-- a byte of a slice, where a buffer has it
abbrev pub held_byte : Box2i → List Placement → List ℕ → Byte → ℕ
held_byte window placements from k = slice_index from (place_of window placements k)

-- the place of a byte of a slice, after `at` bytes and the earlier samples of its line
abbrev pub line_place : List Placement → Box2i → ℕ → Byte → ℕ
line_place placements region at k =
    at + count_before (placement_at placements k.slice).sampling region.x0 k.x * bytes_of (placement_at placements k.slice).kind + k.byte

-- a byte of a slice with the number of the slice's channel: where it comes in the raw bytes, and where a buffer has it
abbrev pub raw_place : List Channel → Box2i → ℕ × Byte → ℕ
raw_place channels region k = raw_place_of channels region k.0 k.1.x k.1.y + k.1.byte

abbrev pub buffer_byte : Box2i → List Placement → List ℕ → ℕ × Byte → ℕ
buffer_byte window placements from k = held_byte window placements from k.1

-- those of a channel on a line, of the first channels on a line, and of the first lines
pub record IsReadRow (window : Box2i) (placements : List Placement) (region : Box2i) (places : List (Option ℕ)) (c : ℕ) (y : ℤ) (k : ℕ × Byte) : Type 0 where
  pub channel : k.0 ≡ c
  pub of_channel : IsOfChannel window placements region places k.0 y k.1

pub record IsReadLine (window : Box2i) (placements : List Placement) (region : Box2i) (places : List (Option ℕ)) (count : ℕ) (y : ℤ) (k : ℕ × Byte) : Type 0 where
  pub early : k.0 < count
  pub of_channel : IsOfChannel window placements region places k.0 y k.1

pub record IsReadLines (window : Box2i) (placements : List Placement) (region : Box2i) (places : List (Option ℕ)) (lines : ℕ) (k : ℕ × Byte) : Type 0 where
  pub early : k.1.y <ℤ (region.y0 +ℤ pos lines)
  pub of_channel : IsOfChannel window placements region places k.0 k.1.y k.1
