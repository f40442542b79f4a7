-- What the tests over all planes grant to the later ones.
use Rattle.std.specs.Prelude.{◌≤◌, ◌^◌, All}
use Rattle.exr_layout.specs.declared.planes.Slice.{Slice}
use Rattle.exr_layout.specs.declared.planes.Run.{Run}
use Rattle.exr_layout.specs.declared.planes.Plane.{Plane}

-- offsets, strides and bases up to 2^40
pub record IsNearSlice (s : Slice) : Type 0 where
  pub at : s.at ≤ 2 ^ 40

pub record IsNearRun (r : Run) : Type 0 where
  pub at : r.at ≤ 2 ^ 40
  pub stride : r.stride ≤ 2 ^ 40
  pub slices : All IsNearSlice r.slices.items

pub record IsNearPlane (p : Plane) : Type 0 where
  pub base : p.base ≤ 2 ^ 40
  pub stride : p.stride ≤ 2 ^ 40
  pub runs : All IsNearRun p.runs.items

-- a run has columns
pub record IsSampledRun (r : Run) : Type 0 where
  pub sampling : 1 ≤ r.sampling
