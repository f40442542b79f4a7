use Rattle.std.proofs.Common.{◌≡◌, ℕ, ◌+◌, ◌<◌, IsTrue, get_or}
use Rattle.exr_encoder.proofs.table.is_clear.Given as goal

abbrev pub invariant-loop-k : goal.invariant-loop-k
invariant-loop-k l = IsTrue l.clear → (k : ℕ) → k < l.k → get_or l.lengths (l.from + k) 0 ≡ 0
