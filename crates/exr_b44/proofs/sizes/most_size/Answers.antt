use Rattle.std.proofs.Common.{arith}
use Rattle.exr_b44.proofs.Channels.{most_more}
use Rattle.exr_b44.proofs.sizes.most_size.Goals as goal

pub loop-channel-preserved : goal.loop-channel-preserved
loop-channel-preserved c = record {
  so_far = most_more c.args.shape.now.region c.args.shape.now.channels.now c.channel-item.result c.loop-channel.channel-index c.loop-channel.size c.most_len-size.result c.counts_of.result c.loop-channel-test.true c.channel-item.is c.loop-channel.invariant.so_far
      c.most_len-size.ensures.exact c.counts_of.ensures.columns c.counts_of.ensures.rows;
  small = omega (arith, c.most_len-size.ensures.small, c.loop-channel.invariant.small);
}
