use Rattle.std.proofs.Common.{◌≡◌, ℕ, ◌+◌, ◌<◌, IsTrue, get_or}
use Rattle.exr_merging.proofs.leaves.is_clear.Given as goal

abbrev pub invariant-loop-k : goal.invariant-loop-k
invariant-loop-k l = IsTrue l.clear → (k : ℕ) → k < l.k → get_or l.weights (l.from + k) 0 ≡ 0
