use Rattle.std.proofs.Common.{arith}
use Rattle.exr_b44.proofs.Stripes.{each_more, lens_more}
use Rattle.exr_b44.proofs.sizes.line_len.Goals as goal

pub loop-channel-preserved : goal.loop-channel-preserved
loop-channel-preserved c =
    let shape = c.args.shape.now in
    let l = c.loop-channel in
    record {
      so_far = lens_more shape.region shape.channels.now c.channel-item.result l.channel-index l.line c.row_len-line.result c.counts_of.result c.loop-channel-test.true c.channel-item.is l.invariant.so_far c.row_len-line.ensures.exact c.counts_of.ensures.columns;
      small = omega (arith, c.row_len-line.ensures.small, l.invariant.small);
      each = each_more shape.channels.now c.channel-item.result l.channel-index c.loop-channel-test.true c.channel-item.is c.if-channel-ne1.false l.invariant.each;
    }
