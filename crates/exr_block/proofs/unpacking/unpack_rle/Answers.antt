use Rattle.exr_block.proofs.Stored.{unpacked_long}
use Rattle.exr_block.proofs.unpacking.unpack_rle.Goals as goal

pub returns-in-Ok-clause-size : goal.returns-in-Ok-clause-size
returns-in-Ok-clause-size c = unpacked_long c.args.data.now c.in-Ok.unpacked.items c.raw_size.result _ c.in-Ok.ensures.found c.raw_size.ensures
