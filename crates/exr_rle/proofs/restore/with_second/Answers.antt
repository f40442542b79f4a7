use Rattle.std.proofs.Common.{arith}
use Rattle.exr_rle.proofs.Sixteen.{adds_earlier}
use Rattle.exr_rle.proofs.restore.with_second.Goals as goal

pub returns : goal.returns
returns c = adds_earlier 2 c.args.lanes (omega arith) c.requires
