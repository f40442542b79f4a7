use Rattle.std.proofs.Common.{◌≡◌, ℕ, ◌+◌, ◌-◌, ◌%◌, ◌<◌, get_or}
use Rattle.exr_rle.proofs.halves.put_differences.Given as goal

abbrev pub invariant-loop-k : goal.invariant-loop-k
invariant-loop-k l = record {
  first : get_or l.into 0 0 ≡ get_or l.halves 0 0;
  later : (j : ℕ) → j + 1 < l.k → get_or l.into (j + 1) 0 ≡ (get_or l.halves (j + 1) 0 + 384 - get_or l.halves j 0) % 256;
}
