-- What a buffer holds once the samples of a region were copied into it (own).
use Rattle.std.specs.Prelude.{◌≡◌, ◌≢◌, ◌+◌, ◌/◌, ◌%◌, ◌^◌, ℕ, List, slice_index, slice_index_or, Option, Some, None}
use Rattle.exr_base.specs.declared.shape.Box2i.{Box2i}
use Rattle.exr_base.specs.declared.channel.Channel.{Channel}
use Rattle.exr_base.specs.Shape.{raw_place_of}
use Rattle.exr_layout.specs.declared.placement.Placement.{Placement}
use Rattle.exr_base.specs.Boxes.{IsWithin}
use Rattle.exr_layout.specs.Place.{Byte, IsNamed, placement_at}

-- some bytes were copied, each to its place; every other byte is as before
pub record IsCopied {K : Type 0} (which : K → Type 0) (place value : K → ℕ) (old new : List ℕ) : Type 0 where
  pub copied : (k : K) → which k → slice_index new (place k) ≡ value k
  pub others : (at : ℕ) → ((k : K) → which k → place k ≢ at) → slice_index new at ≡ slice_index old at

-- a byte of a sample: of the raw bytes where the slice has a channel, else of the fill, the low byte first
abbrev pub byte_of : List Channel → Box2i → List ℕ → Placement → Option ℕ → Byte → ℕ
byte_of channels region raw placement None k = placement.fill / 256 ^ k.byte % 256
byte_of channels region raw placement (Some c) k = slice_index raw (raw_place_of channels region c k.x k.y + k.byte)

unfoldable pub chunk_byte : List Channel → Box2i → List ℕ → List Placement → List (Option ℕ) → Byte → ℕ
chunk_byte channels region raw placements places k =
    byte_of channels region raw (placement_at placements k.slice) (slice_index_or places k.slice None) k

-- a byte that a layout names, of a pixel of a region
pub record IsInRegion (window : Box2i) (placements : List Placement) (region : Box2i) (k : Byte) : Type 0 where
  pub named : IsNamed window placements k
  pub within : IsWithin region k.x k.y
