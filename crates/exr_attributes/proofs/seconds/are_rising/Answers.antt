use Rattle.std.proofs.Common.{arith}
use Rattle.exr_attributes.proofs.seconds.are_rising.Goals as goal

pub returns : goal.returns
returns c _ = λ k within. c.loop-i.invariant k (omega (arith, within))
