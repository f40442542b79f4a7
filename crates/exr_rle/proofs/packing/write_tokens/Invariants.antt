use Rattle.std.proofs.Common.{◌≡◌, ◌+◌, ◌-◌, ◌*◌, ◌<◌, ◌≤◌, ◌++◌, false, length, take, drop}
use Rattle.exr_rle.specs.Token.{spelling_of}
use Rattle.exr_rle.specs.Packed.{begins_three, tokens_of}
use Rattle.exr_rle.proofs.packing.write_tokens.Given as goal

abbrev pub invariant-tokens : goal.invariant-tokens
invariant-tokens l = record {
  within : l.at ≤ length l.bytes;
  room : 127 * l.to ≤ 128 * l.at + 127;
  tight : l.at < length l.bytes → begins_three (drop l.at l.bytes) ≡ false → 127 * l.to ≤ 128 * l.at;
  spelled : take l.to l.into ++ spelling_of (tokens_of (drop l.at l.bytes)) ≡ spelling_of (tokens_of l.bytes);
}

abbrev pub decreases-tokens : goal.decreases-tokens
decreases-tokens l = length l.bytes - l.at
