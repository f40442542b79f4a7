use Rattle.std.proofs.Common.{◌≡◌, ◌+◌, drop}
use Rattle.std.specs.List.{position_or_len}
use Rattle.exr_layout.specs.Validation.{slices_of_runs, has_name}
use Rattle.exr_layout.proofs.names.place_in_runs.Given as goal

abbrev pub invariant-loop-run : goal.invariant-loop-run
invariant-loop-run l = position_or_len (has_name l.name) (slices_of_runs l.runs) ≡ l.before + position_or_len (has_name l.name) (slices_of_runs (drop l.run-index l.runs))
