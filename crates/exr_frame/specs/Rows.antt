-- What was copied so far: samples along a row, the row of a slice, the row of a channel, channels of a line, lines, fills.
use Rattle.std.specs.Prelude.{◌≡◌, ◌<◌, ◌≤◌, ◌+◌, ◌*◌, ◌/◌, ◌%◌, ◌^◌, ◌-◌, ◌<ℤ◌, ◌≤ℤ◌, length, ◌&&◌, Bool, false, IsTrue, pos, ◌+ℤ◌, ℕ, ℤ, List, slice_index, slice_index_or, Option, Some, None}
use Rattle.std.specs.Int.{int_min, int_max}
use Rattle.exr_base.specs.declared.shape.Box2i.{Box2i}
use Rattle.exr_base.specs.Channel.{bytes_of}
use Rattle.exr_layout.specs.declared.placement.Placement.{Placement}
use Rattle.exr_base.specs.Sampling.{is_multiple, sample_count_of}
use Rattle.exr_frame.specs.declared.strip.Strip.{Strip}
use Rattle.exr_layout.specs.Plan.{Matching}
use Rattle.exr_layout.specs.Validation.{Frame}
use Rattle.exr_base.specs.Boxes.{is_side_inside}
use Rattle.exr_base.specs.Boxes.{IsWithin}
use Rattle.exr_base.specs.Sampling.{count_before}
use Rattle.exr_layout.specs.Place.{Byte, IsNamed, placements_of, placement_at}

-- byte k.1 of sample k.0 of a row
pub record IsOfRow (samples size : ℕ) (k : ℕ × ℕ) : Type 0 where
  pub sample : k.0 < samples
  pub byte : k.1 < size

abbrev pub row_place : ℕ → ℕ → ℕ × ℕ → ℕ
row_place at stride k = at + k.0 * stride + k.1

abbrev pub sample_byte : List ℕ → ℕ → ℕ × ℕ → ℕ
sample_byte from size k = slice_index from (k.0 * size + k.1)

abbrev pub fill_byte : ℕ → ℕ × ℕ → ℕ
fill_byte fill k = fill / 256 ^ k.1 % 256

-- the bytes of a slice on a line of a region
pub record IsInRow (window : Box2i) (placements : List Placement) (region : Box2i) (s : ℕ) (y : ℤ) (k : Byte) : Type 0 where
  pub named : IsNamed window placements k
  pub within : IsWithin region k.x k.y
  pub slice : k.slice ≡ s
  pub line : k.y ≡ y

-- the byte of a line's samples, and of the fill
abbrev pub line_byte : List Placement → Box2i → List ℕ → Byte → ℕ
line_byte placements region row k =
    slice_index row (count_before (placement_at placements k.slice).sampling region.x0 k.x * bytes_of (placement_at placements k.slice).kind + k.byte)

abbrev pub filled_byte : List Placement → Byte → ℕ
filled_byte placements k = (placement_at placements k.slice).fill / 256 ^ k.byte % 256

-- the bytes of a channel's slice on a line
pub record IsOfChannel (window : Box2i) (placements : List Placement) (region : Box2i) (places : List (Option ℕ)) (c : ℕ) (y : ℤ) (k : Byte) : Type 0 where
  pub named : IsNamed window placements k
  pub within : IsWithin region k.x k.y
  pub channel : slice_index_or places k.slice None ≡ Some c
  pub line : k.y ≡ y

-- the bytes of the first channels on a line
pub record IsOfLine (window : Box2i) (placements : List Placement) (region : Box2i) (places : List (Option ℕ)) (count : ℕ) (y : ℤ) (k : Byte) : Type 0 where
  pub named : IsNamed window placements k
  pub within : IsWithin region k.x k.y
  pub channel : ℕ
  pub has_channel : slice_index_or places k.slice None ≡ Some channel
  pub early : channel < count
  pub line : k.y ≡ y

-- the bytes of channels on the first lines
pub record IsOfLines (window : Box2i) (placements : List Placement) (region : Box2i) (places : List (Option ℕ)) (lines : ℕ) (k : Byte) : Type 0 where
  pub named : IsNamed window placements k
  pub within : IsWithin region k.x k.y
  pub channel : ℕ
  pub has_channel : slice_index_or places k.slice None ≡ Some channel
  pub early : k.y <ℤ (region.y0 +ℤ pos lines)

-- the bytes of a slice on the first lines
pub record IsOfSlice (window : Box2i) (placements : List Placement) (region : Box2i) (s : ℕ) (lines : ℕ) (k : Byte) : Type 0 where
  pub named : IsNamed window placements k
  pub within : IsWithin region k.x k.y
  pub slice : k.slice ≡ s
  pub early : k.y <ℤ (region.y0 +ℤ pos lines)

-- the bytes of the first slices without a channel
pub record IsOfFills (window : Box2i) (placements : List Placement) (region : Box2i) (places : List (Option ℕ)) (count : ℕ) (k : Byte) : Type 0 where
  pub named : IsNamed window placements k
  pub within : IsWithin region k.x k.y
  pub no_channel : slice_index_or places k.slice None ≡ None
  pub early : k.slice < count

-- where the columns begin and end that a window and a region have in common
abbrev pub low_of : Box2i → Box2i → ℤ
low_of window region = int_max window.x0 region.x0

abbrev pub high_of : Box2i → Box2i → ℤ
high_of window region = int_min window.x1 region.x1

-- the samples that a slice has on a line of a region: their number, the offset of the first in the buffer, and the number
-- of samples of the line before it
pub record IsStrip (f : Frame) (region : Box2i) (s : ℕ) (y : ℤ) (strip : Strip) : Type 0 where
  pub ordered : low_of f.window region ≤ℤ high_of f.window region
  pub samples : strip.samples ≡ sample_count_of (placement_at (placements_of f.planes) s).sampling (low_of f.window region) (high_of f.window region)
  pub at : strip.at ≡ (placement_at (placements_of f.planes) s).base
      + count_before (placement_at (placements_of f.planes) s).row_sampling f.window.y0 y * (placement_at (placements_of f.planes) s).row_stride
      + (placement_at (placements_of f.planes) s).run
      + count_before (placement_at (placements_of f.planes) s).sampling f.window.x0 (low_of f.window region) * (placement_at (placements_of f.planes) s).stride
      + (placement_at (placements_of f.planes) s).at
  pub skip : strip.skip ≡ count_before (placement_at (placements_of f.planes) s).sampling region.x0 (low_of f.window region)
  pub some : 0 < strip.samples
  pub stride : bytes_of (placement_at (placements_of f.planes) s).kind ≤ (placement_at (placements_of f.planes) s).stride
  pub room : strip.at + (strip.samples - 1) * (placement_at (placements_of f.planes) s).stride + bytes_of (placement_at (placements_of f.planes) s).kind ≤ f.buffer
  pub inside : strip.skip + strip.samples ≤ sample_count_of (placement_at (placements_of f.planes) s).sampling region.x0 region.x1

-- a slice has no sample on that line of a region
abbrev pub HasNone : Frame → Box2i → ℕ → ℤ → Type 0
HasNone f region s y = (k : Byte) → IsInRow f.window (placements_of f.planes) region s y k → ⊥

-- the line is one of the slice's, in the window
abbrev pub has_line : Frame → ℕ → ℤ → Bool
has_line f s y = is_side_inside y y f.window.y0 f.window.y1 && is_multiple (placement_at (placements_of f.planes) s).row_sampling y

-- and in the region
pub record IsLineOf (f : Frame) (region : Box2i) (s : ℕ) (y : ℤ) : Type 0 where
  pub slice : s < length (placements_of f.planes)
  pub line : IsTrue (is_multiple (placement_at (placements_of f.planes) s).row_sampling y)
  pub top : f.window.y0 ≤ℤ y
  pub bottom : y ≤ℤ f.window.y1
  pub above : region.y0 ≤ℤ y
  pub below : y ≤ℤ region.y1

-- slice s holds channel c of the part, and line y of a region is one of its lines
pub record IsSliceOf (f : Frame) (region : Box2i) (plan : Matching) (c : ℕ) (y : ℤ) (s : ℕ) : Type 0 where
  pub held : slice_index_or plan.slices c None ≡ Some s
  pub on_line : IsLineOf f region s y

-- no slice that holds channel c has that line
abbrev pub HasNoSlice : Frame → Matching → ℕ → ℤ → Type 0
HasNoSlice f plan c y = (s : ℕ) → slice_index_or plan.slices c None ≡ Some s → has_line f s y ≡ false
