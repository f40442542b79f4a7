use Rattle.std.proofs.Common.{◌≡◌, ◌+◌, ◌-◌, ◌*◌, ◌/◌, ◌^◌, ◌<◌, ◌≤◌, ◌++◌, vec_len, vec_capacity}
use Rattle.exr_base.specs.Bits.{bits_of, bits_of_bytes}
use Rattle.exr_base.proofs.bits.BitWriter.push.Given as goal

abbrev pub invariant-bits : goal.invariant-bits
invariant-bits l = record {
  within : l.left ≤ l.n;
  below : l.self-inside.count < 8;
  small : l.self-inside.pending < 2 ^ l.self-inside.count;
  room : 8 * vec_len l.self-inside.bytes + l.self-inside.count + l.left < 8 * vec_capacity l.self-inside.bytes;
  so_far : bits_of_bytes l.self-inside.bytes.items ++ bits_of l.self-inside.count l.self-inside.pending ≡ l.fn.self ++ bits_of (l.n - l.left) (l.value / 2 ^ l.left);
}

abbrev pub decreases-bits : goal.decreases-bits
decreases-bits l = l.left
