-- Raw data regrouped channel by channel, each channel with its lines from the top (own). Raw data goes line by line,
-- and on each line channel by channel; both are the same rows of samples, in two orders.
use Rattle.std.specs.Prelude.{◌+◌, ◌*◌, ℕ, zero, suc, ℤ, pos, ◌+ℤ◌, List, [], ◌++◌, length, take, drop, sum_by}
use Rattle.exr_base.specs.declared.shape.Box2i.{Box2i}
use Rattle.exr_base.specs.declared.channel.Channel.{Channel}
use Rattle.exr_base.specs.Channel.{bytes_of, channel_at}
use Rattle.exr_base.specs.Sampling.{multiples_among, count_before}
use Rattle.exr_base.specs.Shape.{width_of, height_of, row_bytes_of, row_place_of, channel_bytes_of}

-- the lists of the numbers 0 to n - 1, one after the other
unfoldable pub joined : ℕ → (ℕ → List ℕ) → List ℕ
joined zero list = []
joined (suc n) list = joined n list ++ list n

-- the samples of channel number c on line y, in raw data
unfoldable pub row_of : List Channel → Box2i → List ℕ → ℕ → ℤ → List ℕ
row_of channels region raw c y = take (row_bytes_of region y (channel_at channels c)) (drop (row_place_of channels region c y) raw)

-- all samples of channel number c, line by line from the top
unfoldable pub plane_of : List Channel → Box2i → List ℕ → ℕ → List ℕ
plane_of channels region raw c = joined (height_of region) (λ n. row_of channels region raw c (region.y0 +ℤ pos n))

-- the planes of all channels
unfoldable pub planar_of : List Channel → Box2i → List ℕ → List ℕ
planar_of channels region raw = joined (length channels) (plane_of channels region raw)

-- ---- and back

-- the bytes of a channel on the lines above line y
abbrev pub above_bytes_of : Box2i → ℤ → Channel → ℕ
above_bytes_of region y c = multiples_among c.xs region.x0 (width_of region) * count_before c.ys region.y0 y * bytes_of c.kind

-- where the plane of channel number c begins in planar data
abbrev pub plane_place_of : List Channel → Box2i → ℕ → ℕ
plane_place_of channels region c = sum_by (channel_bytes_of region) (take c channels)

-- where the samples of channel number c on line y begin in planar data: after the planes of the earlier channels, and
-- after the lines above
abbrev pub planar_place_of : List Channel → Box2i → ℕ → ℤ → ℕ
planar_place_of channels region c y = plane_place_of channels region c + above_bytes_of region y (channel_at channels c)

-- those samples
unfoldable pub planar_row_of : List Channel → Box2i → List ℕ → ℕ → ℤ → List ℕ
planar_row_of channels region planar c y =
    take (row_bytes_of region y (channel_at channels c)) (drop (planar_place_of channels region c y) planar)

-- line y as raw data has it: the rows of all channels
unfoldable pub line_from_planar : List Channel → Box2i → List ℕ → ℤ → List ℕ
line_from_planar channels region planar y = joined (length channels) (λ c. planar_row_of channels region planar c y)

-- the raw data of which planar data is the planes
unfoldable pub raw_from_planar : List Channel → Box2i → List ℕ → List ℕ
raw_from_planar channels region planar = joined (height_of region) (λ n. line_from_planar channels region planar (region.y0 +ℤ pos n))
