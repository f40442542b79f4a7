use Rattle.std.proofs.Common.{◌≡◌, ◌-◌, ◌≤◌, [], length, take, drop}
use Rattle.exr_layout.specs.Validation.{slices_of, names_validated}
use Rattle.exr_layout.proofs.names.names_once.Given as goal

abbrev pub invariant-loop-slice : goal.invariant-loop-slice
invariant-loop-slice l = record {
  so_far : names_validated [] (slices_of l.planes) ≡ names_validated (take l.number (slices_of l.planes)) (drop l.number (slices_of l.planes));
  within : l.number ≤ length (slices_of l.planes);
}

abbrev pub decreases-loop-slice : goal.decreases-loop-slice
decreases-loop-slice l = length (slices_of l.planes) - l.number
