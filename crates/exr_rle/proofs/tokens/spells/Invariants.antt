use Rattle.std.proofs.Common.{◌≡◌, ◌≤◌, ◌-◌, length, drop}
use Rattle.exr_rle.specs.Unpacked.{bytes_spelled, counts}
use Rattle.exr_rle.proofs.tokens.spells.Given as goal

abbrev pub invariant-tokens : goal.invariant-tokens
invariant-tokens l = record {
  within : l.at ≤ length l.packed;
  same : counts (bytes_spelled 0 (drop l.at l.packed)) l.left ≡ counts (bytes_spelled 0 l.packed) l.raw;
}

abbrev pub decreases-tokens : goal.decreases-tokens
decreases-tokens l = length l.packed - l.at
