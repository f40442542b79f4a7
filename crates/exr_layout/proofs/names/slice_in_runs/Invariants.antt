use Rattle.std.proofs.Common.{◌≡◌, drop}
use Rattle.std.specs.List.{slice_get}
use Rattle.exr_layout.specs.Validation.{slices_of_runs}
use Rattle.exr_layout.proofs.names.slice_in_runs.Given as goal

abbrev pub invariant-loop-run : goal.invariant-loop-run
invariant-loop-run l = slice_get (slices_of_runs l.runs) l.number ≡ slice_get (slices_of_runs (drop l.run-index l.runs)) l.left
