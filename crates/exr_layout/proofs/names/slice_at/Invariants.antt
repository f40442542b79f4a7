use Rattle.std.proofs.Common.{◌≡◌, drop}
use Rattle.std.specs.List.{slice_get}
use Rattle.exr_layout.specs.Validation.{slices_of}
use Rattle.exr_layout.proofs.names.slice_at.Given as goal

abbrev pub invariant-loop-plane : goal.invariant-loop-plane
invariant-loop-plane l = slice_get (slices_of l.planes) l.number ≡ slice_get (slices_of (drop l.plane-index l.planes)) l.left
