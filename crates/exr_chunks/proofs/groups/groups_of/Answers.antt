-- The bytes of a channel go to the group of its sampling.
use Rattle.std.proofs.Common.{arith}
use Rattle.exr_chunks.proofs.Cycles.{rows_small, grouped_more}
use Rattle.exr_chunks.proofs.groups.groups_of.Goals as goal

pub row_bytes-requires-clause-small : goal.row_bytes-requires-clause-small
row_bytes-requires-clause-small c =
    let small = rows_small c.args.window c.args.channels.now c.loop-channel.groups.items c.loop-channel.channel-index c.channel-item.result c.loop-channel-test.true c.channel-item.is c.requires.small c.loop-channel.invariant in
    omega (arith, small)

pub add-requires-clause-small : goal.add-requires-clause-small
add-requires-clause-small c =
    let small = rows_small c.args.window c.args.channels.now c.loop-channel.groups.items c.loop-channel.channel-index c.channel-item.result c.loop-channel-test.true c.channel-item.is c.requires.small c.loop-channel.invariant in
    omega (arith, c.row_bytes.ensures, small)

pub loop-channel-preserved : goal.loop-channel-preserved
loop-channel-preserved c =
    grouped_more c.args.window c.args.channels.now c.loop-channel.groups.items c.add.new.groups.items c.loop-channel.channel-index c.row_bytes.result c.channel-item.result c.loop-channel-test.true c.channel-item.is c.row_bytes.ensures c.loop-channel.invariant c.in_ok-add.ensures.sampled c.in_ok-add.ensures.more
