use Rattle.std.proofs.Common.{◌≡◌, ◌++◌, take}
use Rattle.std.specs.List.{flat_map}
use Rattle.exr_header.specs.Show.{channel_line}
use Rattle.exr_header.proofs.show.put_channels.Given as goal

abbrev pub invariant-loop-channel : goal.invariant-loop-channel
invariant-loop-channel l = l.to.items ≡ l.initial.to.items ++ flat_map channel_line (take l.channel-index l.channels)
