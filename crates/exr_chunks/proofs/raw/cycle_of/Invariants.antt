use Rattle.std.proofs.Common.{◌≡◌, ◌<◌, ℕ, length, slice_index, take}
use Rattle.exr_chunks.specs.RawBytes.{groups_bytes}
use Rattle.exr_chunks.proofs.raw.cycle_of.Given as goal

-- the bytes of the groups so far
abbrev pub invariant-loop-group : goal.invariant-loop-group
invariant-loop-group l = record {
  long : length l.cycle.items ≡ l.count;
  sizes : (i : ℕ) → i < l.count → slice_index l.cycle.items i ≡ groups_bytes (take l.group-index l.groups) l.rows i;
}
