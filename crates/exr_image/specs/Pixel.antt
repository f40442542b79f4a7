-- The samples of one pixel in the content of a deep chunk. File Layout, "Deep Data Blocks": the counts stand row by row; so
-- do the samples, in each row channel by channel, of each channel the samples of the row's pixels from left to right, those
-- of a pixel in their order.
use Rattle.std.specs.Prelude.{ℕ, ℤ, ◌+◌, ◌*◌, ◌-ℤ◌, nat_abs, List, take, drop, sum, slice_index, slice_range}
use Rattle.exr_base.specs.declared.shape.Box2i.{Box2i}
use Rattle.exr_base.specs.declared.channel.Channel.{Channel}
use Rattle.exr_base.specs.Channel.{bytes_of, channel_at}
use Rattle.exr_base.specs.Shape.{width_of}
use Rattle.exr_deep.specs.Body.{DeepContent}
use Rattle.exr_deep.specs.Deep.{sample_bytes_of}
use Rattle.exr_image.specs.declared.sizes.Sizes.{Sizes}

-- the number of pixels in the rows above line y
abbrev pub row_start : Box2i → ℤ → ℕ
row_start region y = nat_abs (y -ℤ region.y0) * width_of region

-- the number of a pixel, counted row by row
abbrev pub pixel_number : Box2i → ℤ → ℤ → ℕ
pixel_number region x y = row_start region y + nat_abs (x -ℤ region.x0)

-- how many samples a pixel has
abbrev pub count_in : Box2i → DeepContent → ℤ → ℤ → ℕ
count_in region content x y = slice_index content.counts (pixel_number region x y)

-- how many samples the pixels have from one number up to another, that one left out
abbrev pub samples_between : List ℕ → ℕ → ℕ → ℕ
samples_between counts from to = sum (slice_range counts from to)

-- the bytes of one sample of each channel, of one of each channel before channel number c, and of one of that channel
abbrev pub sizes_of : List Channel → ℕ → Sizes
sizes_of channels c = record {
  all = sample_bytes_of channels;
  earlier = sample_bytes_of (take c channels);
  own = bytes_of (channel_at channels c).kind;
}

-- where a channel's samples of a pixel begin: after all samples of the rows above, after those of the earlier channels in
-- the pixel's row, and after the channel's samples of the row's pixels to the left
abbrev pub samples_place : Sizes → Box2i → List ℕ → ℤ → ℤ → ℕ
samples_place sizes region counts x y =
    sum (take (row_start region y) counts) * sizes.all
    + samples_between counts (row_start region y) (row_start region y + width_of region) * sizes.earlier
    + samples_between counts (row_start region y) (pixel_number region x y) * sizes.own

-- all samples of a pixel in a channel of these sizes
unfoldable pub pixel_samples_by : Sizes → Box2i → DeepContent → ℤ → ℤ → List ℕ
pixel_samples_by sizes region content x y =
    take (count_in region content x y * sizes.own) (drop (samples_place sizes region content.counts x y) content.samples)

-- all samples of a pixel in channel number c. Sample k stands after k of them.
abbrev pub pixel_samples_in : List Channel → Box2i → DeepContent → ℕ → ℤ → ℤ → List ℕ
pixel_samples_in channels region content c x y = pixel_samples_by (sizes_of channels c) region content x y
