use Rattle.std.proofs.Common.{◌≡◌, ◌+◌, ◌≤◌, ◌^◌, length, take, drop}
use Rattle.exr_layout.specs.Validation.{runs_validated, slices_of_runs}
use Rattle.exr_layout.proofs.validation.runs_end.Given as goal

abbrev pub invariant-loop-run : goal.invariant-loop-run
invariant-loop-run l = record {
  rest : runs_validated l.window l.first 0 l.runs ≡ runs_validated l.window l.number l.ended (drop l.run-index l.runs);
  number : l.number ≡ l.first + length (slices_of_runs (take l.run-index l.runs));
  begun : l.number ≡ 0 → l.ended ≡ 0;
  small : l.ended ≤ 2 ^ 62;
}
