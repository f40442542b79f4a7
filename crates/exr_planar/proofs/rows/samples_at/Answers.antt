use Rattle.std.proofs.Common.{rules}
use Rattle.exr_planar.proofs.Orders.{one_line}
use Rattle.exr_planar.proofs.rows.samples_at.Goals as goal

pub returns : goal.returns
returns c = one_line c.args.sampling c.sample_count.result _ _ c.args.y c.sample_count.ensures (search rules) (search rules)
