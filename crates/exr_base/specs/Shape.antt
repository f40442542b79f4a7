-- Regions of pixels, and the raw bytes of the samples in one: line by line from the top, on each line channel by
-- channel, of each channel its samples from left to right.
use Rattle.std.specs.Prelude.{◌≤◌, ◌+◌, ◌*◌, ◌^◌, ℕ, zero, suc, ℤ, pos, neg_ℤ, ◌+ℤ◌, ◌-ℤ◌, ◌≤ℤ◌, nat_abs, List, length, take, sum_by, if◌then◌else◌, All}
use Rattle.exr_base.specs.declared.shape.Box2i.{Box2i}
use Rattle.exr_base.specs.declared.channel.Channel.{Channel}
use Rattle.exr_base.specs.Channel.{bytes_of, channel_at}
use Rattle.exr_base.specs.Sampling.{is_multiple, multiples_among, span_of, count_before}

-- pixels in a line
abbrev pub width_of : Box2i → ℕ
width_of region = span_of region.x0 region.x1

-- lines
abbrev pub height_of : Box2i → ℕ
height_of region = span_of region.y0 region.y1

-- the bytes that a channel has on line y
abbrev pub row_bytes_of : Box2i → ℤ → Channel → ℕ
row_bytes_of region y c =
    if is_multiple c.ys y then multiples_among c.xs region.x0 (width_of region) * bytes_of c.kind else 0

-- the bytes of all channels on line y
abbrev pub line_bytes_of : List Channel → Box2i → ℤ → ℕ
line_bytes_of channels region y = sum_by (row_bytes_of region y) channels

-- the bytes of the first n lines
unfoldable pub lines_bytes_of : List Channel → Box2i → ℕ → ℕ
lines_bytes_of channels region zero = 0
lines_bytes_of channels region (suc n) =
    lines_bytes_of channels region n + line_bytes_of channels region (region.y0 +ℤ pos n)

-- the bytes of the region
abbrev pub raw_size_of : List Channel → Box2i → ℕ
raw_size_of channels region = lines_bytes_of channels region (height_of region)

-- where the samples of channel number c on line y begin in the raw bytes of a region: after all lines above, and after
-- the earlier channels of the line
abbrev pub row_place_of : List Channel → Box2i → ℕ → ℤ → ℕ
row_place_of channels region c y =
    lines_bytes_of channels region (nat_abs (y -ℤ region.y0)) + sum_by (row_bytes_of region y) (take c channels)

-- where its sample at (x, y) begins: after the channel's samples to the left
unfoldable pub raw_place_of : List Channel → Box2i → ℕ → ℤ → ℤ → ℕ
raw_place_of channels region c x y =
    row_place_of channels region c y
    + count_before (channel_at channels c).xs region.x0 x * bytes_of (channel_at channels c).kind

-- the bytes that a channel has in the region
abbrev pub channel_bytes_of : Box2i → Channel → ℕ
channel_bytes_of region c =
    multiples_among c.xs region.x0 (width_of region) * multiples_among c.ys region.y0 (height_of region) * bytes_of c.kind

-- a side of a region: coordinates within 2^30 of 0, and 0 to 2^20 places
pub record IsSide (from to : ℤ) : Type 0 where
  pub low : neg_ℤ (pos (2 ^ 30)) ≤ℤ from
  pub high : from ≤ℤ pos (2 ^ 30)
  pub ends : (from -ℤ pos 1) ≤ℤ to
  pub end_high : to ≤ℤ pos (2 ^ 30)
  pub few : span_of from to ≤ 2 ^ 20

pub record IsRegion (region : Box2i) : Type 0 where
  pub columns : IsSide region.x0 region.x1
  pub rows : IsSide region.y0 region.y1

-- the samplings of a channel are at least 1
pub record IsSampled (c : Channel) : Type 0 where
  pub columns : 1 ≤ c.xs
  pub rows : 1 ≤ c.ys

-- at most 1,024 channels over a region
pub record IsShape (channels : List Channel) (region : Box2i) : Type 0 where
  pub few : length channels ≤ 1024
  pub sampled : All IsSampled channels
  pub within : IsRegion region
