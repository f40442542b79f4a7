use Rattle.std.proofs.Common.{◌≡◌, ◌≤◌, ◌*◌, ◌^◌, take}
use Rattle.std.specs.List.{sum_by}
use Rattle.exr_b44.specs.Sizes.{most_of}
use Rattle.exr_b44.proofs.sizes.most_size.Given as goal

abbrev pub invariant-loop-channel : goal.invariant-loop-channel
invariant-loop-channel l = record {
  so_far : l.size ≡ sum_by (most_of l.shape.region) (take l.channel-index l.shape.channels.now);
  small : l.size ≤ l.channel-index * 2 ^ 42;
}
