use Rattle.std.proofs.Common.{arith}
use Rattle.exr_rle.proofs.Sixteen.{adds_earlier}
use Rattle.exr_rle.proofs.restore.with_eighth.Goals as goal

pub returns : goal.returns
returns c = adds_earlier 8 c.args.lanes (omega arith) c.requires
