use Rattle.std.proofs.Common.{◌≡◌, ℕ, ◌+◌, ◌-◌, ◌<◌, ◌≤◌, false, length, drop}
use Rattle.exr_rle.specs.Packed.{begins_three}
use Rattle.exr_rle.proofs.runs.literal_at.Given as goal

abbrev pub invariant-sixteens : goal.invariant-sixteens
invariant-sixteens l = record {
  few : l.count ≤ 127;
  within : l.at + l.count ≤ length l.bytes;
  plain : (k : ℕ) → k < l.count → begins_three (drop (l.at + k) l.bytes) ≡ false;
}

abbrev pub decreases-sixteens : goal.decreases-sixteens
decreases-sixteens l = 127 - l.count

abbrev pub invariant-ones : goal.invariant-ones
invariant-ones l = record {
  few : l.count ≤ 127;
  within : l.at + l.count ≤ length l.bytes;
  plain : (k : ℕ) → k < l.count → begins_three (drop (l.at + k) l.bytes) ≡ false;
}

abbrev pub decreases-ones : goal.decreases-ones
decreases-ones l = 127 - l.count
