use Rattle.std.proofs.Common.{rules}
use Rattle.exr_layout.proofs.Counted.{count_small}
use Rattle.exr_request.proofs.sizes.rows_of.Goals as goal

pub returns-clause-small : goal.returns-clause-small
returns-clause-small c = count_small c.args.sampling c.args.window.y0 c.args.window.y1 c.from.result c.requires.region.rows (search rules)
