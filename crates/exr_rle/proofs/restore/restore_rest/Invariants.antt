use Rattle.std.proofs.Common.{◌≡◌, ℕ, ◌+◌, ◌-◌, ◌<◌, ◌≤◌, drop, get_or}
use Rattle.exr_rle.specs.Unpacked.{restored_after}
use Rattle.exr_rle.proofs.restore.restore_rest.Given as goal

abbrev pub invariant-loop-at : goal.invariant-loop-at
invariant-loop-at l = record {
  before : l.before ≡ restored_after l.fn.before (drop l.from l.initial.bytes) (l.at - l.from);
  restored : (k : ℕ) → l.from + k < l.at → get_or l.bytes (l.from + k) 0 ≡ restored_after l.fn.before (drop l.from l.initial.bytes) (k + 1);
  others : (k : ℕ) → k < l.from → get_or l.bytes k 0 ≡ get_or l.initial.bytes k 0;
  later : (k : ℕ) → l.at ≤ k → get_or l.bytes k 0 ≡ get_or l.initial.bytes k 0;
}
