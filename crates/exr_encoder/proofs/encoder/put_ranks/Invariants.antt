use Rattle.std.proofs.Common.{◌≡◌, ℕ, ◌-◌, ◌<◌, ◌≤◌, length, take, slice_index}
use Rattle.exr_codes.specs.Codes.{count_of}
use Rattle.exr_encoder.proofs.encoder.put_ranks.Given as goal

abbrev pub invariant-entries : goal.invariant-entries
invariant-entries l = record {
  within : l.entry ≤ length l.lengths;
  size : length l.ranks ≡ length l.lengths;
  counts_size : length l.counts ≡ 59;
  counted : (len : ℕ) → 0 < len → len ≤ 58 → slice_index l.counts len ≡ count_of len (take l.entry l.lengths);
  ranked : (k : ℕ) → k < l.entry → 0 < slice_index l.lengths k → slice_index l.ranks k ≡ count_of (slice_index l.lengths k) (take k l.lengths);
}

abbrev pub decreases-entries : goal.decreases-entries
decreases-entries l = length l.lengths - l.entry
