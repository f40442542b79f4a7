-- The product of the two counts and the bytes of a sample is small.
use Rattle.std.proofs.Common.{arith, rules}
use Rattle.exr_base.proofs.RawSize.{channel_small}
use Rattle.exr_base.proofs.shape.channel_size.Goals as goal

pub overflow_mul-result-2 : goal.overflow_mul-result-2
overflow_mul-result-2 c = let s = channel_small c.args.region c.args.channel.now c.from.result c.from-2.result c.bytes.result c.requires.region (search rules) (search rules) (search rules) in omega (arith, s.0)

pub returns-clause-small : goal.returns-clause-small
returns-clause-small c = (channel_small c.args.region c.args.channel.now c.from.result c.from-2.result c.bytes.result c.requires.region (search rules) (search rules) (search rules)).0
