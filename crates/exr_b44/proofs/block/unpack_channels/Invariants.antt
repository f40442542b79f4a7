use Rattle.exr_b44.proofs.Channels.{Unpacking}
use Rattle.exr_b44.proofs.block.unpack_channels.Given as goal

abbrev pub invariant-loop-channel : goal.invariant-loop-channel
invariant-loop-channel l = Unpacking l.shape.region l.shape.channels.now l.packed l.planar l.channel-index l.at l.to
