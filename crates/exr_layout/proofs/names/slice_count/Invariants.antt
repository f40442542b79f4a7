use Rattle.std.proofs.Common.{◌≡◌, length, take}
use Rattle.exr_layout.specs.Validation.{slices_of_runs}
use Rattle.exr_layout.proofs.names.slice_count.Given as goal

abbrev pub invariant-loop-run : goal.invariant-loop-run
invariant-loop-run l = l.count ≡ length (slices_of_runs (take l.run-index l.runs))
