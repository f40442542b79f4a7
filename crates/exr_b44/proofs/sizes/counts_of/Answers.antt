use Rattle.std.proofs.Common.{◌≡◌, arith, rules}
use Rattle.exr_base.specs.Sampling.{sample_count_of}
use Rattle.exr_base.specs.Shape.{width_of, height_of}
use Rattle.exr_base.proofs.Multiples.{multiples_le}
use Rattle.exr_b44.proofs.sizes.counts_of.Goals as goal

pub returns-clause-narrow : goal.returns-clause-narrow
returns-clause-narrow c =
    let is : c.sample_count.result ≡ sample_count_of c.args.channel.now.xs c.args.region.x0 c.args.region.x1 = search rules in
    omega (arith, multiples_le c.args.channel.now.xs c.args.region.x0 (width_of c.args.region), c.requires.region.columns.few)

pub returns-clause-low : goal.returns-clause-low
returns-clause-low c =
    let is : c.sample_count-2.result ≡ sample_count_of c.args.channel.now.ys c.args.region.y0 c.args.region.y1 = search rules in
    omega (arith, multiples_le c.args.channel.now.ys c.args.region.y0 (height_of c.args.region), c.requires.region.rows.few)
