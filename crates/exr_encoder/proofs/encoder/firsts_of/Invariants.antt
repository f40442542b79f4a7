use Rattle.std.proofs.Common.{◌≡◌, ℕ, ◌-◌, ◌/◌, ◌^◌, ◌≤◌, length, slice_index}
use Rattle.exr_codes.specs.Codes.{weight_above}
use Rattle.exr_encoder.proofs.encoder.firsts_of.Given as goal

abbrev pub invariant-lengths : goal.invariant-lengths
invariant-lengths l = record {
  small : l.len ≤ 58;
  size : length l.firsts ≡ 59;
  taken : l.taken ≡ weight_above l.len l.lengths;
  first : (len : ℕ) → l.len ≤ len → len ≤ 58 → slice_index l.firsts len ≡ weight_above len l.lengths / 2 ^ (58 - len);
}

abbrev pub decreases-lengths : goal.decreases-lengths
decreases-lengths l = l.len
