use Rattle.std.proofs.Common.{get_or, arith}
use Rattle.std.proofs.lemmas.List.{length-set}
use Rattle.exr_rle.proofs.Places.{differences_by_place}
use Rattle.exr_rle.proofs.halves.put_differences.Goals as goal

pub returns : goal.returns
returns c = differences_by_place c.args.halves.now c.loop-k.into (omega (arith, length-set c.args.into.now 0 (get_or c.args.halves.now 0 0))) c.loop-k.invariant.first (λ k inside. c.loop-k.invariant.later k (omega arith))
