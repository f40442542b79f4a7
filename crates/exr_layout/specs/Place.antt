-- Where each sample of a window is stored in a buffer (own).
use Rattle.std.specs.Prelude.{◌<◌, ◌+◌, ◌*◌, ℕ, ℤ, IsTrue, List, [], length, map, slice_index_or}
use Rattle.std.specs.List.{flat_map}
use Rattle.exr_base.specs.declared.channel.Kind.TheVariants.{Uint}
use Rattle.exr_base.specs.declared.shape.Box2i.{Box2i}
use Rattle.exr_base.specs.Channel.{bytes_of}
use Rattle.exr_base.specs.Boxes.{IsWithin}
use Rattle.exr_base.specs.Sampling.{is_multiple, count_before}
use Rattle.exr_layout.specs.declared.planes.Slice.{Slice}
use Rattle.exr_layout.specs.declared.planes.Run.{Run}
use Rattle.exr_layout.specs.declared.planes.Plane.{Plane}
use Rattle.exr_layout.specs.declared.placement.Placement.{Placement}

-- ---- runs and planes by what they say, wherever their slices and runs are kept in memory

pub record PlainRun : Type 0 where
  pub at : ℕ
  pub stride : ℕ
  pub sampling : ℕ
  pub slices : List Slice

pub record PlainPlane : Type 0 where
  pub base : ℕ
  pub stride : ℕ
  pub sampling : ℕ
  pub runs : List PlainRun

abbrev pub plain_run : Run → PlainRun
plain_run r = record { at = r.at; stride = r.stride; sampling = r.sampling; slices = r.slices.items }

abbrev pub plain_plane : Plane → PlainPlane
plain_plane p = record { base = p.base; stride = p.stride; sampling = p.sampling; runs = map plain_run p.runs.items }

-- ---- placements

-- a slice with its run and its plane
abbrev pub placement_in : PlainPlane → PlainRun → Slice → Placement
placement_in p r s = record {
  channel = s.channel;
  kind = s.kind;
  fill = s.fill;
  base = p.base;
  row_stride = p.stride;
  row_sampling = p.sampling;
  run = r.at;
  stride = r.stride;
  sampling = r.sampling;
  at = s.at;
}

abbrev pub placement_of : Plane → Run → Slice → Placement
placement_of p r = placement_in (plain_plane p) (plain_run r)

-- all slices, in the order in which they are listed: the number of a slice is its place here
abbrev pub placements_of_run : Plane → Run → List Placement
placements_of_run p r = map (placement_of p r) r.slices.items

abbrev pub placements_of_plane : Plane → List Placement
placements_of_plane p = flat_map (placements_of_run p) p.runs.items

abbrev pub placements_of : List Plane → List Placement
placements_of planes = flat_map placements_of_plane planes

-- the placement of slice s. There is none after the last one: what stands there is in no layout.
abbrev pub no_placement : Placement
no_placement = record {
  channel = [];
  kind = Uint;
  fill = 0;
  base = 0;
  row_stride = 0;
  row_sampling = 0;
  run = 0;
  stride = 0;
  sampling = 0;
  at = 0;
}

abbrev pub placement_at : List Placement → ℕ → Placement
placement_at placements s = slice_index_or placements s no_placement

-- where a sample of a slice starts in the buffer, after `row` rows of its plane and `col` places of its row
abbrev pub place_after : Placement → ℕ → ℕ → ℕ
place_after placement row col = placement.base + row * placement.row_stride + placement.run + col * placement.stride + placement.at

-- where the sample of a slice at (x, y) starts in the buffer of a window
unfoldable pub place_in_buffer : Box2i → Placement → ℤ → ℤ → ℕ
place_in_buffer window placement x y =
    place_after placement (count_before placement.row_sampling window.y0 y) (count_before placement.sampling window.x0 x)

-- one byte of a sample, by the number of its slice, its pixel, and how many bytes of the sample come before it
pub record Byte : Type 0 where
  pub slice : ℕ
  pub x : ℤ
  pub y : ℤ
  pub byte : ℕ

-- the layout names that byte: there is such a slice, it has a sample at that pixel of the window, and such a byte
pub record IsNamed (window : Box2i) (placements : List Placement) (k : Byte) : Type 0 where
  pub slice : k.slice < length placements
  pub within : IsWithin window k.x k.y
  pub column : IsTrue (is_multiple (placement_at placements k.slice).sampling k.x)
  pub line : IsTrue (is_multiple (placement_at placements k.slice).row_sampling k.y)
  pub byte : k.byte < bytes_of (placement_at placements k.slice).kind

-- its offset in the buffer
abbrev pub place_of : Box2i → List Placement → Byte → ℕ
place_of window placements k = place_in_buffer window (placement_at placements k.slice) k.x k.y + k.byte
