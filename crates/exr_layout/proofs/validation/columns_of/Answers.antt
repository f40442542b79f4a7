use Rattle.std.proofs.Common.{rules}
use Rattle.exr_layout.proofs.Counted.{count_small}
use Rattle.exr_layout.proofs.validation.columns_of.Goals as goal

pub returns-clause-small : goal.returns-clause-small
returns-clause-small c = count_small c.args.sampling c.args.window.x0 c.args.window.x1 c.sample_count.result c.requires.region.columns (search rules)
