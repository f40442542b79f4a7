use Rattle.std.proofs.Common.{arith}
use Rattle.exr_packing.proofs.Weighing.{ordered}
use Rattle.exr_packing.proofs.words.weigh.Goals as goal

pub overflow_sub-greatest : goal.overflow_sub-greatest
overflow_sub-greatest c = omega (arith, c.requires.least, c.requires.greatest, ordered c.args.words.now c.requires.some)
