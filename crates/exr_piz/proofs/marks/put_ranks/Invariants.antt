use Rattle.std.proofs.Common.{◌≡◌, ℕ, ◌<◌, ◌≤◌, length, get_or}
use Rattle.exr_piz.specs.Values.{passing_below}
use Rattle.exr_piz.specs.Marks.{is_counted}
use Rattle.exr_piz.proofs.marks.put_ranks.Given as goal

abbrev pub invariant-loop-v : goal.invariant-loop-v
invariant-loop-v l = record {
  some : 1 ≤ l.below;
  few : l.below ≤ l.v;
  count : l.below ≡ length (passing_below (is_counted l.marks) l.v);
  ranks : (u : ℕ) → u < l.v → get_or l.ranks u 0 ≡ length (passing_below (is_counted l.marks) u);
}
