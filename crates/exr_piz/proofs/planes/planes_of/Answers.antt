use Rattle.std.proofs.Common.{rules}
use Rattle.exr_piz.proofs.Turning.{side_small}
use Rattle.exr_piz.proofs.planes.planes_of.Goals as goal

pub returns-clause-few : goal.returns-clause-few
returns-clause-few c = side_small c.args.channel.now.xs c.args.region.x0 c.args.region.x1 c.sample_count.result c.requires.region.columns.few (search rules)

pub returns-clause-low : goal.returns-clause-low
returns-clause-low c = side_small c.args.channel.now.ys c.args.region.y0 c.args.region.y1 c.sample_count-2.result c.requires.region.rows.few (search rules)
