use Rattle.std.proofs.Common.{◌≡◌, ◌+◌, min, length, take}
use Rattle.exr_layout.specs.Validation.{slices_of_runs}
use Rattle.exr_layout.proofs.names.more_slices.Given as goal

abbrev pub invariant-loop-run : goal.invariant-loop-run
invariant-loop-run l = l.count ≡ min 1025 (l.before + length (slices_of_runs (take l.run-index l.runs)))
