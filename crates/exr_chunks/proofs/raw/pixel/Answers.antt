use Rattle.std.proofs.Common.{arith}
use Rattle.exr_chunks.proofs.Parts.{kind_small, pixel_more}
use Rattle.exr_chunks.proofs.raw.pixel.Goals as goal

pub loop-channel-preserved : goal.loop-channel-preserved
loop-channel-preserved c =
    let cs = c.args.channels.now in
    let d = c.channel-item.result in
    let so_far = c.loop-channel.invariant.small in
    let bytes = c.bytes.ensures in
    let four = kind_small d.kind in
    record {
      pixel = pixel_more cs c.loop-channel.channel-index c.loop-channel.bytes c.bytes.result d c.loop-channel-test.true c.channel-item.is c.loop-channel.invariant.pixel c.if-channel-ne1.false c.if-channel-ne1-2.false c.bytes.ensures;
      small = omega (arith, so_far, bytes, four);
    }
