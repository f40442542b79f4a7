use Rattle.std.proofs.Common.{arith}
use Rattle.exr_b44.proofs.Blocks.{is_short, is_long, is_whole}
use Rattle.exr_b44.proofs.block.unpack_planes.Goals as goal

pub returns-in-None : goal.returns-in-None
returns-in-None c = is_short c.args.shape.now.channels.now c.args.shape.now.region c.args.packed.now c.in-None.ensures.none

pub returns-then-end-packed : goal.returns-then-end-packed
returns-then-end-packed c = is_long c.args.shape.now.channels.now c.args.shape.now.region c.args.packed.now (omega (arith, c.in-Some.ensures.end))

pub returns-else-end-packed : goal.returns-else-end-packed
returns-else-end-packed c =
    is_whole c.args.shape.now.channels.now c.args.shape.now.region c.args.packed.now c.unpack_channels.new.planar c.put_raw.new.into (omega (arith, c.in-Some.ensures.end, c.in-Some.ensures.none)) c.in-Some.ensures.samples c.put_raw.ensures.exact
