-- The raw bytes of a part's chunks, as a geometry keeps them. File Layout, "Regular scan line image block layout".
use Rattle.std.specs.Prelude.{◌==◌, ◌≡◌, ◌<◌, ◌≤◌, ◌+◌, ◌*◌, ◌%◌, ℕ, pos, Bool, true, false, List, length, slice_index, sum_by, All, if◌then◌else◌}
use Rattle.std.specs.List.{list_all}
use Rattle.exr_base.specs.declared.channel.Channel.{Channel}
use Rattle.exr_base.specs.declared.shape.Box2i.{Box2i}
use Rattle.exr_base.specs.Channel.{bytes_of}
use Rattle.exr_base.specs.Sampling.{multiples_among}
use Rattle.exr_base.specs.Shape.{width_of, height_of}
use Rattle.exr_chunks.specs.declared.groups.Group.{Group}
use Rattle.exr_chunks.specs.declared.raw.RawSizes.{RawSizes}
use Rattle.exr_chunks.specs.declared.raw.RawSizes.TheVariants.{Pixels, Lines}
use Rattle.exr_chunks.specs.Heads.{Header, IsPicture, is_tiled, is_deep, is_everywhere, chunk_height, chunk_count_of}
use Rattle.exr_chunks.specs.Region.{region_of, chunk_bytes_of}
use Rattle.exr_chunks.specs.Sizes.{IsMeasured}

-- the size that is kept of chunk i: some bytes for each pixel of its region, or the number at its place in the cycle; the
-- last chunk has a number of its own
abbrev pub kept_size : RawSizes → ℕ → Box2i → ℕ → ℕ
kept_size (Pixels bytes) count region i = bytes * (width_of region * height_of region)
kept_size (Lines cycle last) count region i =
    if (i + 1) == count then last else slice_index cycle.items (i % length cycle.items)

-- there is a cycle where there is more than the last chunk
abbrev pub HasCycle : RawSizes → ℕ → Type 0
HasCycle (Pixels bytes) count = Unit {0}
HasCycle (Lines cycle last) count = 1 < count → 0 < length cycle.items

-- for each chunk of a part its raw bytes are read
pub record HasRawSizes (sizes : RawSizes) (h : Header) : Type 0 where
  pub some : HasCycle sizes (chunk_count_of h)
  pub exact : (i : ℕ) → i < chunk_count_of h → kept_size sizes (chunk_count_of h) (region_of h i) i ≡ chunk_bytes_of h i

-- each channel has a sample at each pixel
abbrev pub are_whole : List Channel → Bool
are_whole channels = list_all is_everywhere channels

-- and the bytes of a pixel are those of one sample of each
pub record IsPixel (channels : List Channel) (bytes : ℕ) : Type 0 where
  pub whole : are_whole channels ≡ true
  pub sum : bytes ≡ sum_by (λ c. bytes_of c.kind) channels

-- ---- channels by their y samplings

-- a flat scan line part, the lines of a chunk that is not cut, and the number of its chunks
pub record IsInLines (h : Header) (rows count : ℕ) : Type 0 where
  pub picture : IsPicture h
  pub measured : IsMeasured h
  pub in_lines : is_tiled h.kind ≡ false
  pub flat : is_deep h.kind ≡ false
  pub rows_are : rows ≡ chunk_height h
  pub count_is : count ≡ chunk_count_of h

-- the bytes that a channel has on a line with samples of it
abbrev pub row_bytes : Box2i → Channel → ℕ
row_bytes window c = multiples_among c.xs window.x0 (width_of window) * bytes_of c.kind

-- the bytes of groups, each weighed by a number for its sampling, and those of channels
abbrev pub weighed : (ℕ → ℕ) → List Group → ℕ
weighed weight groups = sum_by (λ g. weight g.ys * g.bytes) groups

abbrev pub weighed_channels : (ℕ → ℕ) → Box2i → List Channel → ℕ
weighed_channels weight window channels = sum_by (λ c. weight c.ys * row_bytes window c) channels

-- groups stand for channels: however their samplings are weighed, it is the same
pub record IsGrouped (window : Box2i) (channels : List Channel) (groups : List Group) : Type 0 where
  pub sampled : All (λ g. 1 ≤ g.ys) groups
  pub same : (weight : ℕ → ℕ) → weighed weight groups ≡ weighed_channels weight window channels

-- the bytes of a group, and of all, on the lines of chunk i, where line 0 is a multiple of each sampling
abbrev pub samples_in : ℕ → ℕ → ℕ → ℕ
samples_in rows i sampling = multiples_among sampling (pos (i * rows)) rows

abbrev pub group_bytes : ℕ → ℕ → Group → ℕ
group_bytes rows i g = samples_in rows i g.ys * g.bytes

abbrev pub groups_bytes : List Group → ℕ → ℕ → ℕ
groups_bytes groups rows i = weighed (samples_in rows i) groups

-- after that many chunks the pattern of each group repeats
abbrev pub IsPeriod : List Group → ℕ → ℕ → Type 0
IsPeriod groups rows period = All (λ g. (period * rows) % g.ys ≡ 0) groups

-- the bytes of the first chunks, from which those of all whole ones are read
pub record IsCycle (groups : List Group) (rows whole : ℕ) (cycle : List ℕ) : Type 0 where
  pub some : 0 < whole → 0 < length cycle
  pub exact : (i : ℕ) → i < whole → slice_index cycle (i % length cycle) ≡ groups_bytes groups rows i
