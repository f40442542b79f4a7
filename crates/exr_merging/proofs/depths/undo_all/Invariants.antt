use Rattle.std.proofs.Common.{◌≡◌, ℕ, ◌≤◌, length, get_or}
use Rattle.exr_merging.specs.Trees.{leaves_from, merged_within}
use Rattle.exr_merging.proofs.Undone.{AreDepths}
use Rattle.exr_merging.proofs.depths.undo_all.Given as goal

abbrev pub invariant-merges : goal.invariant-merges
invariant-merges l = record {
  few : l.left ≤ length l.merges;
  size : length l.depths ≡ length l.weights;
  none : (k : ℕ) → get_or l.weights k 0 ≡ 0 → get_or l.depths k 0 ≡ 0;
  known : AreDepths l.depths (merged_within l.left (leaves_from 0 l.weights)) (merged_within (length l.merges) (leaves_from 0 l.weights));
}

abbrev pub decreases-merges : goal.decreases-merges
decreases-merges l = l.left
