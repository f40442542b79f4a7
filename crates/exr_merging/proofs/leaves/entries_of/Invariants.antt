use Rattle.std.proofs.Common.{◌-◌, ◌≤◌, length, take}
use Rattle.exr_merging.specs.Trees.{leaves_from}
use Rattle.exr_merging.specs.Steps.{AreAmong}
use Rattle.exr_merging.proofs.leaves.entries_of.Given as goal

abbrev pub invariant-eights : goal.invariant-eights
invariant-eights l = record {
  within : l.from ≤ length l.weights;
  known : AreAmong l.entries.items (leaves_from 0 (take l.from l.weights));
}

abbrev pub decreases-eights : goal.decreases-eights
decreases-eights l = length l.weights - l.from
