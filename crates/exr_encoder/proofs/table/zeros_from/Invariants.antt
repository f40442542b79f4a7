use Rattle.std.proofs.Common.{◌≡◌, ℕ, ◌+◌, ◌-◌, ◌<◌, ◌≤◌, slice_index}
use Rattle.exr_encoder.proofs.table.zeros_from.Given as goal

abbrev pub invariant-eights : goal.invariant-eights
invariant-eights l = record {
  within : l.count ≤ l.most;
  zeros : (k : ℕ) → k < l.count → slice_index l.lengths (l.at + k) ≡ 0;
}

abbrev pub decreases-eights : goal.decreases-eights
decreases-eights l = l.most - l.count

abbrev pub invariant-zeros : goal.invariant-zeros
invariant-zeros l = record {
  within : l.count ≤ l.most;
  zeros : (k : ℕ) → k < l.count → slice_index l.lengths (l.at + k) ≡ 0;
}

abbrev pub decreases-zeros : goal.decreases-zeros
decreases-zeros l = l.most - l.count
