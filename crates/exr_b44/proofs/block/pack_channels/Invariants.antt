use Rattle.exr_b44.proofs.Channels.{Packing}
use Rattle.exr_b44.proofs.block.pack_channels.Given as goal

abbrev pub invariant-loop-channel : goal.invariant-loop-channel
invariant-loop-channel l = Packing l.shape.region l.flat l.shape.channels.now l.planar l.into l.channel-index l.at l.to
