use Rattle.std.proofs.Common.{◌≡◌, ◌+◌, ◌-◌, ◌≤◌, length, take, drop, ap, arith}
use Rattle.exr_b44.proofs.Channels.{bytes_more, most_within, most_all, packing_begun, packing_more, packing_done}
use Rattle.exr_b44.proofs.block.pack_channels.Goals as goal

pub loop-channel-init : goal.loop-channel-init
loop-channel-init c = packing_begun c.args.shape.now.region c.args.flat c.args.shape.now.channels.now c.args.planar.now c.args.into.now

pub overflow_add-at : goal.overflow_add-at
overflow_add-at c =
    let shape = c.args.shape.now in
    let l = c.loop-channel in
    let more = bytes_more shape.region shape.channels.now c.channel-item.result l.channel-index l.at c.raw_len-size.result c.counts_of-counts.result c.loop-channel-test.true c.channel-item.is l.invariant.at_is c.raw_len-size.ensures c.counts_of-counts.ensures.columns c.counts_of-counts.ensures.rows in
    omega (arith, more.2, c.requires.size)

pub slice_bounds-pack_channel-end : goal.slice_bounds-pack_channel-end
slice_bounds-pack_channel-end c =
    let shape = c.args.shape.now in
    let l = c.loop-channel in
    let more = bytes_more shape.region shape.channels.now c.channel-item.result l.channel-index l.at c.raw_len-size.result c.counts_of-counts.result c.loop-channel-test.true c.channel-item.is l.invariant.at_is c.raw_len-size.ensures c.counts_of-counts.ensures.columns c.counts_of-counts.ensures.rows in
    let within : l.at + c.raw_len-size.result ≤ length c.args.planar.now = omega (arith, more.2, c.requires.planar) in
    omega arith

pub pack_channel-to-requires-clause-room : goal.pack_channel-to-requires-clause-room
pack_channel-to-requires-clause-room c =
    let shape = c.args.shape.now in
    let l = c.loop-channel in
    let here = most_within shape.region shape.channels.now c.channel-item.result l.channel-index l.to c.counts_of-counts.result c.loop-channel-test.true c.channel-item.is l.invariant.few c.counts_of-counts.ensures.columns c.counts_of-counts.ensures.rows in
    omega (arith, here, most_all shape.region shape.channels.now c.channel-item.result l.channel-index c.loop-channel-test.true, c.requires.room, l.auto.into)

pub loop-channel-preserved : goal.loop-channel-preserved
loop-channel-preserved c =
    let shape = c.args.shape.now in
    let l = c.loop-channel in
    let planar = c.args.planar.now in
    let size = c.raw_len-size.result in
    let count : (l.at + size) - l.at ≡ size = omega arith in
    packing_more shape.region c.args.flat shape.channels.now planar l.into c.pack_channel-to.new.into (take ((l.at + size) - l.at) (drop l.at planar)) c.channel-item.result l.channel-index l.at l.to size c.pack_channel-to.result c.counts_of-counts.result
    c.loop-channel-test.true c.channel-item.is c.counts_of-counts.ensures.columns c.counts_of-counts.ensures.rows c.raw_len-size.ensures (ap (λ n. take n (drop l.at planar)) count) c.pack_channel-to.ensures.packed c.pack_channel-to.ensures.few l.invariant

pub returns-clause-packed : goal.returns-clause-packed
returns-clause-packed c =
    let shape = c.args.shape.now in
    let l = c.loop-channel in
    packing_done shape.region c.args.flat shape.channels.now c.args.planar.now l.into l.channel-index l.at l.to c.loop-channel-test.false l.invariant
