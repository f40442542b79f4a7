use Rattle.std.proofs.Common.{◌≡◌, ◌*◌, ◌^◌, ◌≤◌}
use Rattle.exr_packing.specs.Costs.{cost_below}
use Rattle.exr_packing.proofs.plan.cost.Given as goal

abbrev pub invariant-loop-entry : goal.invariant-loop-entry
invariant-loop-entry l = record {
  so_far : l.cost ≡ cost_below l.weights l.lengths l.entry;
  fits : l.cost ≤ l.entry * 2 ^ 40;
}
