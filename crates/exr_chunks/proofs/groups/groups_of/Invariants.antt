use Rattle.std.proofs.Common.{take}
use Rattle.exr_chunks.specs.RawBytes.{IsGrouped}
use Rattle.exr_chunks.proofs.groups.groups_of.Given as goal

-- the groups of the channels so far
abbrev pub invariant-loop-channel : goal.invariant-loop-channel
invariant-loop-channel l = IsGrouped l.window (take l.channel-index l.channels) l.groups.items
