use Rattle.std.proofs.Common.{◌≡◌, ◌+◌, ◌-◌, ◌*◌, ◌≤◌, length, drop, arith}
use Rattle.exr_base.specs.Channel.{bytes_of}
use Rattle.exr_b44.specs.Block.{unpacked}
use Rattle.exr_b44.proofs.Rows.{rows_whole}
use Rattle.exr_b44.proofs.Stripes.{unpacked_there}
use Rattle.exr_b44.proofs.Channels.{bytes_more, unpacking_begun, unpacking_more, unpacking_done, cut_off}
use Rattle.exr_b44.proofs.block.unpack_channels.Goals as goal

pub loop-channel-init : goal.loop-channel-init
loop-channel-init c = unpacking_begun c.args.shape.now.region c.args.shape.now.channels.now c.args.packed.now c.args.planar.now

pub overflow_add-to : goal.overflow_add-to
overflow_add-to c =
    let shape = c.args.shape.now in
    let l = c.loop-channel in
    let more = bytes_more shape.region shape.channels.now c.channel-item.result l.channel-index l.to c.raw_len-size.result c.counts_of-counts.result c.loop-channel-test.true c.channel-item.is l.invariant.to_is c.raw_len-size.ensures c.counts_of-counts.ensures.columns c.counts_of-counts.ensures.rows in
    omega (arith, more.2, c.requires.size)

pub overflow_add-plane : goal.overflow_add-plane
overflow_add-plane c =
    let shape = c.args.shape.now in
    let l = c.loop-channel in
    let more = bytes_more shape.region shape.channels.now c.channel-item.result l.channel-index l.to c.raw_len-size.result c.counts_of-counts.result c.loop-channel-test.true c.channel-item.is l.invariant.to_is c.raw_len-size.ensures c.counts_of-counts.ensures.columns c.counts_of-counts.ensures.rows in
    omega (arith, more.2, c.requires.size)

pub slice_bounds-plane-end : goal.slice_bounds-plane-end
slice_bounds-plane-end c =
    let shape = c.args.shape.now in
    let l = c.loop-channel in
    let more = bytes_more shape.region shape.channels.now c.channel-item.result l.channel-index l.to c.raw_len-size.result c.counts_of-counts.result c.loop-channel-test.true c.channel-item.is l.invariant.to_is c.raw_len-size.ensures c.counts_of-counts.ensures.columns c.counts_of-counts.ensures.rows in
    let within : l.to + c.raw_len-size.result ≤ length l.planar = omega (arith, more.2, c.requires.room, l.auto.planar) in
    omega arith

pub returns-in-None-clause-none : goal.returns-in-None-clause-none
returns-in-None-clause-none c =
    let shape = c.args.shape.now in
    let l = c.loop-channel in
    cut_off shape.region shape.channels.now c.args.packed.now l.planar c.channel-item.result l.channel-index l.at l.to c.counts_of-counts.result c.loop-channel-test.true c.channel-item.is c.counts_of-counts.ensures.columns c.counts_of-counts.ensures.rows l.invariant c.in-None.ensures.none

pub loop-channel-preserved : goal.loop-channel-preserved
loop-channel-preserved c =
    let shape = c.args.shape.now in
    let l = c.loop-channel in
    let size = c.raw_len-size.result in
    let more = bytes_more shape.region shape.channels.now c.channel-item.result l.channel-index l.to size c.counts_of-counts.result c.loop-channel-test.true c.channel-item.is l.invariant.to_is c.raw_len-size.ensures c.counts_of-counts.ensures.columns c.counts_of-counts.ensures.rows in
    let room : l.to + size ≤ length l.planar = omega (arith, more.2, c.requires.room, l.auto.planar) in
    let count : (l.to + size) - l.to ≡ size = omega arith in
    let new = c.unpack_channel.new.lines in
    let long : length new ≡ size = omega (arith, c.unpack_channel.auto.lines) in
    let counts = c.counts_of-counts.result in
    let kind = c.channel-item.result.kind in
    let plane = unpacked kind counts.columns counts.rows (drop l.at c.args.packed.now) in
    let wide = counts.columns * bytes_of kind in
    let whole : length plane ≡ counts.columns * counts.rows * bytes_of kind = unpacked_there kind counts.columns counts.rows l.at c.in-Some.end c.args.packed.now c.in-Some.ensures.none c.in-Some.ensures.end in
    let samples : new ≡ plane =
    rows_whole plane _ new c.row_len-line.result wide counts.rows c.row_len-line.ensures.exact (omega (arith, c.raw_len-size.ensures)) (omega arith) c.in-Some.ensures.rows in
    rw count
    (unpacking_more shape.region shape.channels.now c.args.packed.now l.planar c.channel-item.result l.channel-index l.at l.to c.counts_of-counts.result c.loop-channel-test.true c.channel-item.is c.counts_of-counts.ensures.columns c.counts_of-counts.ensures.rows l.invariant
    new size c.in-Some.end c.raw_len-size.ensures c.in-Some.ensures.none c.in-Some.ensures.end long room samples)

pub returns-clause-end : goal.returns-clause-end
returns-clause-end c =
    let shape = c.args.shape.now in
    let l = c.loop-channel in
    (unpacking_done shape.region shape.channels.now c.args.packed.now l.planar l.channel-index l.at l.to c.loop-channel-test.false (omega (arith, c.requires.room, l.auto.planar)) l.invariant).0

pub returns-clause-samples : goal.returns-clause-samples
returns-clause-samples c =
    let shape = c.args.shape.now in
    let l = c.loop-channel in
    (unpacking_done shape.region shape.channels.now c.args.packed.now l.planar l.channel-index l.at l.to c.loop-channel-test.false (omega (arith, c.requires.room, l.auto.planar)) l.invariant).1
