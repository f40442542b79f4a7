use Rattle.std.proofs.Common.{◌≡◌, ℕ, ◌+◌, ◌-◌, ◌<◌, ◌≤◌, length, get_or}
use Rattle.exr_rle.proofs.runs.run_at.Given as goal

abbrev pub invariant-sixteens : goal.invariant-sixteens
invariant-sixteens l = record {
  some : 1 ≤ l.count;
  few : l.count ≤ 128;
  within : l.at + l.count ≤ length l.bytes;
  equal : (k : ℕ) → k < l.count → get_or l.bytes (l.at + k) 0 ≡ l.byte;
}

abbrev pub decreases-sixteens : goal.decreases-sixteens
decreases-sixteens l = 128 - l.count

abbrev pub invariant-ones : goal.invariant-ones
invariant-ones l = record {
  some : 1 ≤ l.count;
  few : l.count ≤ 128;
  within : l.at + l.count ≤ length l.bytes;
  equal : (k : ℕ) → k < l.count → get_or l.bytes (l.at + k) 0 ≡ l.byte;
}

abbrev pub decreases-ones : goal.decreases-ones
decreases-ones l = 128 - l.count
