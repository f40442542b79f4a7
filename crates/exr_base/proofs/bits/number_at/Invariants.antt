use Rattle.std.proofs.Common.{◌≡◌, ◌+◌, ◌-◌, ◌≤◌, take, drop}
use Rattle.exr_base.specs.Bits.{number_of, bits_of_bytes}
use Rattle.exr_base.proofs.bits.number_at.Given as goal

abbrev pub invariant-bytes : goal.invariant-bytes
invariant-bytes l = record {
  within : l.left ≤ l.n;
  behind : l.place ≡ l.at + (l.n - l.left);
  so_far : l.value ≡ number_of (take (l.n - l.left) (drop l.at (bits_of_bytes l.bytes)));
}

abbrev pub decreases-bytes : goal.decreases-bytes
decreases-bytes l = l.left
