use Rattle.std.proofs.Common.{arith, rules}
use Rattle.std.proofs.lemmas.Int.{ints}
use Rattle.exr_base.proofs.Multiples.{places_before}
use Rattle.exr_base.proofs.sampling.count_before.Goals as goal

pub returns : goal.returns
returns c = places_before c.args.sampling c.sample_count.result c.args.from _ _ c.args.to c.sample_count.ensures (search rules) (omega (arith, ints)) c.requires.ordered
