use Rattle.std.proofs.Common.{refl, arith}
use Rattle.exr_b44.specs.Block.{channels_unpacked}
use Rattle.exr_b44.proofs.Blocks.{is_short, is_long, is_whole}
use Rattle.exr_b44.proofs.block.unpack_lines.Goals as goal

pub returns-in-None : goal.returns-in-None
returns-in-None c = let shape = c.args.shape.now in is_short shape.channels.now shape.region c.args.packed.now c.in-None.ensures.none

pub returns-then-end-packed : goal.returns-then-end-packed
returns-then-end-packed c = let shape = c.args.shape.now in is_long shape.channels.now shape.region c.args.packed.now (omega (arith, c.in-Some.ensures.end))

pub returns-else-end-packed : goal.returns-else-end-packed
returns-else-end-packed c =
    let shape = c.args.shape.now in
    is_whole shape.channels.now shape.region c.args.packed.now (channels_unpacked shape.region shape.channels.now c.args.packed.now) c.unpack_stripes.new.raw
    (omega (arith, c.in-Some.ensures.end, c.in-Some.ensures.none)) refl c.in-Some.ensures.raw
