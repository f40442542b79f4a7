use Rattle.std.proofs.Common.{rules}
use Rattle.exr_layout.proofs.Counted.{count_small}
use Rattle.exr_request.proofs.sizes.columns_of.Goals as goal

pub returns-clause-small : goal.returns-clause-small
returns-clause-small c = count_small c.args.sampling c.args.window.x0 c.args.window.x1 c.from.result c.requires.region.columns (search rules)
