use Rattle.std.proofs.Common.{◌≡◌, ℕ, ◌/◌, ◌^◌, ◌<◌, ◌≤◌, slice_index}
use Rattle.exr_codes.specs.Codes.{weight_above}
use Rattle.exr_codes.specs.Decoding.{IsLeast}
use Rattle.exr_codes.proofs.leasts.lay_leasts.Given as goal

abbrev pub invariant-lengths : goal.invariant-lengths
invariant-lengths l = record {
  small : l.len ≤ 58;
  here : l.from ≡ weight_above l.len l.lengths / 2 ^ 46;
  each : (front : ℕ) → front < l.from → IsLeast l.lengths front (slice_index l.leasts front);
}

abbrev pub decreases-lengths : goal.decreases-lengths
decreases-lengths l = l.len
