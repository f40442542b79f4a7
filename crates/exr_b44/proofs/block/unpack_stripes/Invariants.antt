use Rattle.exr_b44.proofs.Stripes.{Laying}
use Rattle.exr_b44.proofs.block.unpack_stripes.Given as goal

abbrev pub invariant-loop-channel : goal.invariant-loop-channel
invariant-loop-channel l = Laying l.shape.region l.shape.channels.now l.packed l.raw l.channel-index l.at l.first
