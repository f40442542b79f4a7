use Rattle.std.proofs.Common.{◌≡◌, ℕ, ◌-◌, ◌<◌, ◌≤◌, length, slice_index}
use Rattle.exr_packing.proofs.writing.equals_after.Given as goal

abbrev pub invariant-equals : goal.invariant-equals
invariant-equals l = record {
  within : l.count ≤ length l.rest;
  few : l.count ≤ 255;
  equal : (k : ℕ) → k < l.count → slice_index l.rest k ≡ l.word;
}

abbrev pub decreases-equals : goal.decreases-equals
decreases-equals l = 255 - l.count
