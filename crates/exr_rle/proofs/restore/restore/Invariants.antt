use Rattle.std.proofs.Common.{◌≡◌, ℕ, ◌-◌, ◌<◌, ◌≤◌, length, get_or, replicate}
use Rattle.exr_rle.specs.Unpacked.{restored_at, restored_after}
use Rattle.exr_rle.proofs.restore.restore.Given as goal

abbrev pub invariant-sixteens : goal.invariant-sixteens
invariant-sixteens l = record {
  within : l.at ≤ length l.bytes;
  lanes : l.before ≡ replicate 16 (restored_after 128 l.initial.bytes l.at);
  restored : (k : ℕ) → k < l.at → get_or l.bytes k 0 ≡ restored_at l.initial.bytes k;
  later : (k : ℕ) → l.at ≤ k → get_or l.bytes k 0 ≡ get_or l.initial.bytes k 0;
}

abbrev pub decreases-sixteens : goal.decreases-sixteens
decreases-sixteens l = length l.bytes - l.at
