use Rattle.std.proofs.Common.{◌≡◌, ◌≤◌, ◌*◌, ◌^◌, take}
use Rattle.std.specs.List.{sum_by}
use Rattle.exr_b44.specs.Sizes.{least_of}
use Rattle.exr_b44.proofs.sizes.least_size.Given as goal

abbrev pub invariant-loop-channel : goal.invariant-loop-channel
invariant-loop-channel l = record {
  so_far : l.size ≡ sum_by (least_of l.shape.region) (take l.channel-index l.shape.channels.now);
  small : l.size ≤ l.channel-index * 2 ^ 42;
}
