-- How the samples of channels are arranged in a buffer (own).
use Rattle.std.specs.Prelude.{◌+◌, ◌*◌, ℕ, List, [], ◌∷◌, map, sum_by}
use Rattle.exr_base.specs.declared.shape.Box2i.{Box2i}
use Rattle.exr_base.specs.declared.channel.Channel.{Channel}
use Rattle.exr_base.specs.Channel.{bytes_of}
use Rattle.exr_base.specs.Sampling.{sample_count_of}
use Rattle.exr_asked.specs.declared.choices.Arrangement.{Arrangement}
use Rattle.exr_asked.specs.declared.choices.Arrangement.TheVariants.{Planar, Lines, Pixels}
use Rattle.exr_layout.specs.declared.planes.Slice.{Slice}
pub use Rattle.exr_layout.specs.Place.{PlainRun, PlainPlane, plain_run, plain_plane}
use Rattle.exr_request.specs.Chosen.{first_of}

-- ---- sizes, in bytes

abbrev pub kind_bytes : Channel → ℕ
kind_bytes c = bytes_of c.kind

-- the samples of a channel on a line that has some
abbrev pub row_bytes : Box2i → Channel → ℕ
row_bytes window c = sample_count_of c.xs window.x0 window.x1 * kind_bytes c

-- all samples of a channel, with as many bytes behind each line
abbrev pub plane_bytes : Box2i → ℕ → Channel → ℕ
plane_bytes window pad c = sample_count_of c.ys window.y0 window.y1 * (row_bytes window c + pad)

-- ---- slices, runs and planes

-- for each channel, one behind the other: each begins where those before it end
abbrev pub behind : {Y : Type 0} → (Channel → ℕ) → (ℕ → Channel → Y) → ℕ → List Channel → List Y
behind size make at [] = []
behind size make at (c ∷ rest) = make at c ∷ behind size make (at + size c) rest

abbrev pub slice_for : ℕ → ℕ → Channel → Slice
slice_for fill at c = record { channel = c.name; kind = c.kind; at = at; fill = fill }

-- the samples of one channel, one behind the other
abbrev pub run_for : ℕ → ℕ → Channel → PlainRun
run_for fill at c = record { at = at; stride = kind_bytes c; sampling = c.xs; slices = slice_for fill 0 c ∷ [] }

-- the lines of one channel, one behind the other
abbrev pub plane_for : Box2i → ℕ → ℕ → ℕ → Channel → PlainPlane
plane_for window pad fill base c =
    record { base = base; stride = row_bytes window c + pad; sampling = c.ys; runs = run_for fill 0 c ∷ [] }

-- the lines of the channels, one behind the other on each line
abbrev pub line_plane : Box2i → ℕ → ℕ → List Channel → PlainPlane
line_plane window pad fill channels = record {
  base = 0;
  stride = sum_by (row_bytes window) channels + pad;
  sampling = (first_of channels).ys;
  runs = behind (row_bytes window) (run_for fill) 0 channels;
}

-- the samples of the channels, one behind the other at each pixel
abbrev pub pixel_run : ℕ → ℕ → List Channel → PlainRun
pixel_run pad fill channels = record {
  at = 0;
  stride = sum_by kind_bytes channels + pad;
  sampling = (first_of channels).xs;
  slices = behind kind_bytes (slice_for fill) 0 channels;
}

abbrev pub pixel_plane : Box2i → ℕ → ℕ → List Channel → PlainPlane
pixel_plane window pad fill channels = record {
  base = 0;
  stride = sample_count_of (first_of channels).xs window.x0 window.x1 * (sum_by kind_bytes channels + pad);
  sampling = (first_of channels).ys;
  runs = pixel_run pad fill channels ∷ [];
}

abbrev pub planes_for : Arrangement → Box2i → ℕ → ℕ → List Channel → List PlainPlane
planes_for Planar window pad fill channels = behind (plane_bytes window pad) (plane_for window pad fill) 0 channels
planes_for Lines window pad fill channels = line_plane window pad fill channels ∷ []
planes_for Pixels window pad fill channels = pixel_plane window pad fill channels ∷ []

-- where the last plane ends, behind what has ended before
abbrev pub end_behind : Box2i → ℕ → List PlainPlane → ℕ
end_behind window ended [] = ended
end_behind window ended (p ∷ rest) =
    end_behind window (p.base + sample_count_of p.sampling window.y0 window.y1 * p.stride) rest
