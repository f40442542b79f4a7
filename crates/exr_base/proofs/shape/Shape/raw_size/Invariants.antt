use Rattle.std.proofs.Common.{◌≡◌, ◌≤◌, ◌*◌, ◌^◌, take}
use Rattle.std.specs.List.{sum_by}
use Rattle.exr_base.specs.Shape.{channel_bytes_of}
use Rattle.exr_base.proofs.shape.Shape.raw_size.Given as goal

-- the size so far is that of the channels so far, each of which is small
abbrev pub invariant-loop-channel : goal.invariant-loop-channel
invariant-loop-channel l = record {
  so_far : l.size ≡ sum_by (channel_bytes_of l.region) (take l.channel-index l.channel-items);
  small : l.size ≤ l.channel-index * 2 ^ 42;
}
