use Rattle.std.proofs.Common.{◌≡◌, ℕ, ◌+◌, ◌-◌, ◌*◌, ◌<◌, ◌≤◌, length, map, drop, get_or}
use Rattle.exr_merging.specs.declared.root.Merge.{Merge}
use Rattle.exr_merging.specs.Trees.{merged_within}
use Rattle.exr_merging.specs.Steps.{leaf_of, merged_root, IsMergeOf}
use Rattle.exr_merging.proofs.Queues.{AreQueues}
use Rattle.exr_merging.proofs.merges.merges_of.Given as goal

abbrev pub invariant-merges : goal.invariant-merges
invariant-merges l =
    let trees = map leaf_of l.leaves in
    let count = length l.merges.items in
    record {
      leaves_left : l.taken.leaves ≤ length l.leaves;
      merges_left : l.taken.merges ≤ count;
      twice : l.taken.leaves + l.taken.merges ≡ 2 * count;
      few : count ≤ length l.leaves - 1;
      each : (k : ℕ) (d : Merge) → k < count → IsMergeOf (merged_within k trees) (get_or l.merges.items k d);
      queues : AreQueues (merged_within count trees) (merged_within count trees) (drop l.taken.leaves l.leaves) (map merged_root (drop l.taken.merges l.merges.items));
    }

abbrev pub decreases-merges : goal.decreases-merges
decreases-merges l = length l.leaves - length l.merges.items
