use Rattle.std.proofs.Common.{◌≡◌, ◌+◌, All, length, take, drop}
use Rattle.exr_layout.specs.Validation.{samplings_validated, slices_of_runs}
use Rattle.exr_layout.specs.Near.{IsSampledRun}
use Rattle.exr_layout.proofs.validation.all_sampled.Given as goal

abbrev pub invariant-loop-run : goal.invariant-loop-run
invariant-loop-run l = record {
  rest : samplings_validated l.first l.runs ≡ samplings_validated l.number (drop l.run-index l.runs);
  number : l.number ≡ l.first + length (slices_of_runs (take l.run-index l.runs));
  sampled : All IsSampledRun (take l.run-index l.runs);
}
