use Rattle.std.proofs.Common.{◌≡◌, ◌≤◌, ◌-◌, length, take, drop, Some, [], unwrap_or}
use Rattle.exr_rle.specs.Unpacked.{bytes_spelled}
use Rattle.exr_rle.proofs.tokens.expand.Given as goal

abbrev pub invariant-tokens : goal.invariant-tokens
invariant-tokens l = record {
  within : l.at ≤ length l.packed;
  room : l.to ≤ length l.into;
  long : length (unwrap_or (bytes_spelled 0 l.packed) []) ≡ length l.into;
  rest : bytes_spelled 0 (drop l.at l.packed) ≡ Some (drop l.to (unwrap_or (bytes_spelled 0 l.packed) []));
  front : take l.to l.into ≡ take l.to (unwrap_or (bytes_spelled 0 l.packed) []);
}

abbrev pub decreases-tokens : goal.decreases-tokens
decreases-tokens l = length l.packed - l.at
