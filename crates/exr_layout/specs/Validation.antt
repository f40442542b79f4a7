-- When planes are a valid layout: the tests in their order (own). Each test of a run, a plane or a list answers the offset
-- at which it ends, or the first fault.
use Rattle.std.specs.Prelude.{◌≡◌, ◌==◌, ◌≤ℤ◌, ◌≤◌, ◌<◌, ◌+◌, ◌-◌, ◌*◌, ◌^◌, ◌||◌, nat_lt, ℕ, Bool, List, [], ◌∷◌, ◌++◌, length, position, Option, Some, None, Result, Ok, Err, if◌then◌else◌}
use Rattle.std.specs.List.{flat_map, list_any}
use Rattle.std.specs.Cmp.Lexicographic.{pointwise}
use Rattle.std.specs.Prelude.{nat_eq}
use Rattle.exr_base.specs.declared.shape.Box2i.{Box2i}
use Rattle.exr_base.specs.Channel.{bytes_of}
use Rattle.exr_base.specs.Refusal.{◌>>=◌}
use Rattle.exr_base.specs.Sampling.{sample_count_of}
use Rattle.exr_base.specs.Shape.{IsRegion}
use Rattle.exr_layout.specs.declared.planes.Slice.{Slice}
use Rattle.exr_layout.specs.declared.planes.Run.{Run}
use Rattle.exr_layout.specs.declared.planes.Plane.{Plane}
use Rattle.exr_layout.specs.declared.fault.LayoutFault.{LayoutFault}
use Rattle.exr_layout.specs.declared.fault.LayoutFault.TheVariants.{Empty, Huge, TwiceChannel, ZeroSampling, Overlap, ShortStride, OutOfBuffer}

-- ---- over all planes

-- the slices, in their order
abbrev pub slices_of_runs : List Run → List Slice
slices_of_runs runs = flat_map (λ r. r.slices.items) runs

abbrev pub slices_of_plane : Plane → List Slice
slices_of_plane p = slices_of_runs p.runs.items

abbrev pub slices_of : List Plane → List Slice
slices_of planes = slices_of_runs (flat_map (λ p. p.runs.items) planes)

abbrev pub is_empty_run : Run → Bool
is_empty_run r = length r.slices.items == 0

abbrev pub is_empty_plane : Plane → Bool
is_empty_plane p = length p.runs.items == 0 || list_any is_empty_run p.runs.items

-- offsets, strides and bases go up to 2^40
abbrev pub is_huge : ℕ → Bool
is_huge n = nat_lt (2 ^ 40) n

abbrev pub is_huge_slice : Slice → Bool
is_huge_slice s = is_huge s.at

abbrev pub is_huge_run : Run → Bool
is_huge_run r = is_huge r.at || is_huge r.stride || list_any is_huge_slice r.slices.items

abbrev pub is_huge_plane : Plane → Bool
is_huge_plane p = is_huge p.base || is_huge p.stride || list_any is_huge_run p.runs.items

-- a fault at the first place, where there is one
abbrev pub refused_at : (ℕ → LayoutFault) → Option ℕ → Result (Unit {0}) LayoutFault
refused_at fault None = Ok tt
refused_at fault (Some at) = Err (fault at)

-- the slice has that name
abbrev pub has_name : List ℕ → Slice → Bool
has_name name s = pointwise nat_eq s.channel name

-- the first slice whose name one before it has
unfoldable pub names_validated : List Slice → List Slice → Result (Unit {0}) LayoutFault
names_validated before [] = Ok tt
names_validated before (s ∷ rest) =
    refused_at (λ first. TwiceChannel first (length before)) (position (has_name s.channel) before)
    >>= λ _. names_validated (before ++ s ∷ []) rest

-- ---- slice by slice, run by run, plane by plane

-- the end of some pieces of `each` bytes that start at `at`, one stride apart: none end where they start
abbrev pub end_of : ℕ → ℕ → ℕ → ℕ → ℕ
end_of at stride pieces each = if pieces == 0 then at else at + (pieces - 1) * stride + each

abbrev pub slice_end : Slice → ℕ
slice_end s = s.at + bytes_of s.kind

-- a test: a fault where it applies, else an end, or nothing
abbrev pub validated : {X : Type 0} → Bool → LayoutFault → X → Result X LayoutFault
validated applies fault ends = if applies then Err fault else Ok ends

-- slices of a run, numbered from n, after what has ended
unfoldable pub slices_validated : ℕ → ℕ → List Slice → Result ℕ LayoutFault
slices_validated n ended [] = Ok ended
slices_validated n ended (s ∷ rest) =
    validated (nat_lt s.at ended) (Overlap (n - 1) n) (slice_end s) >>= λ ends. slices_validated (n + 1) ends rest

abbrev pub run_end : Box2i → Run → ℕ → ℕ
run_end window r each = end_of r.at r.stride (sample_count_of r.sampling window.x0 window.x1) each

unfoldable pub run_validated : Box2i → ℕ → ℕ → Run → Result ℕ LayoutFault
run_validated window n ended r = do
  each ← slices_validated n 0 r.slices.items
  fits ← validated (nat_lt r.stride each) (ShortStride (n + length r.slices.items - 1)) each
  validated (nat_lt r.at ended) (Overlap (n - 1) n) (run_end window r fits)

unfoldable pub runs_validated : Box2i → ℕ → ℕ → List Run → Result ℕ LayoutFault
runs_validated window n ended [] = Ok ended
runs_validated window n ended (r ∷ rest) =
    run_validated window n ended r >>= λ ends. runs_validated window (n + length r.slices.items) ends rest

-- the first run without a sampling
unfoldable pub samplings_validated : ℕ → List Run → Result (Unit {0}) LayoutFault
samplings_validated n [] = Ok tt
samplings_validated n (r ∷ rest) =
    validated (r.sampling == 0) (ZeroSampling n) (tt {0}) >>= λ _. samplings_validated (n + length r.slices.items) rest

abbrev pub plane_end : Box2i → Plane → ℕ → ℕ
plane_end window p each = end_of p.base p.stride (sample_count_of p.sampling window.y0 window.y1) each

abbrev pub last_of : ℕ → Plane → ℕ
last_of n p = n + length (slices_of_plane p) - 1

unfoldable pub plane_validated : Box2i → ℕ → ℕ → ℕ → Plane → Result ℕ LayoutFault
plane_validated window buffer n ended p = do
  rows ← validated (p.sampling == 0) (ZeroSampling n) (tt {0})
  columns ← samplings_validated n p.runs.items
  each ← runs_validated window n 0 p.runs.items
  fits ← validated (nat_lt p.stride each) (ShortStride (last_of n p)) each
  begins ← validated (nat_lt p.base ended) (Overlap (n - 1) n) (plane_end window p fits)
  validated (nat_lt buffer begins) (OutOfBuffer (last_of n p)) begins

unfoldable pub planes_validated : Box2i → ℕ → ℕ → ℕ → List Plane → Result ℕ LayoutFault
planes_validated window buffer n ended [] = Ok ended
planes_validated window buffer n ended (p ∷ rest) =
    plane_validated window buffer n ended p >>= λ ends. planes_validated window buffer (n + length (slices_of_plane p)) ends rest

-- ---- layouts

-- planes over a window, and the number of bytes of their buffer
pub record Frame : Type 0 where
  pub planes : List Plane
  pub window : Box2i
  pub buffer : ℕ

abbrev pub frame_from : List Plane → Box2i → ℕ → Frame
frame_from planes window buffer = record { planes = planes; window = window; buffer = buffer }

-- the end of what planes fill, or the first fault
unfoldable pub frame_validated : Frame → Result ℕ LayoutFault
frame_validated f = do
  filled ← refused_at (λ plane. Empty plane) (position is_empty_plane f.planes)
  near ← refused_at (λ plane. Huge plane) (position is_huge_plane f.planes)
  once ← names_validated [] (slices_of f.planes)
  planes_validated f.window f.buffer 0 0 f.planes

-- no test applies
pub record IsValid (f : Frame) : Type 0 where
  pub ends : ℕ
  pub validated : frame_validated f ≡ Ok ends

-- a window that is not empty, planes with at most 1,024 slices, and a buffer whose bytes 64 bits count
pub record IsFrame (f : Frame) : Type 0 where
  pub region : IsRegion f.window
  pub columns : f.window.x0 ≤ℤ f.window.x1
  pub rows : f.window.y0 ≤ℤ f.window.y1
  pub few : length (slices_of f.planes) ≤ 1024
  pub counted : f.buffer < 2 ^ 64

-- the layout, or the first fault of its planes
abbrev pub layout_of : Frame → Result Frame LayoutFault
layout_of f = frame_validated f >>= λ _. Ok f
