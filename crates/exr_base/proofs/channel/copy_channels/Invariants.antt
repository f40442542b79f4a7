use Rattle.std.proofs.Common.{◌≡◌, take}
use Rattle.exr_base.proofs.channel.copy_channels.Given as goal

-- the channels so far
abbrev pub invariant-loop-channel : goal.invariant-loop-channel
invariant-loop-channel l = l.copies.items ≡ take l.channel-index l.channels
