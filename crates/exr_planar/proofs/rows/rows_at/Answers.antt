-- Sizes that are small, and are those of the rows.
use Rattle.std.proofs.Common.{◌*◌, arith, rules}
use Rattle.exr_base.specs.Sampling.{span_of}
use Rattle.exr_planar.proofs.Orders.{row_small, rows_small, above_small, rows_are}
use Rattle.exr_planar.proofs.rows.rows_at.Goals as goal

pub overflow_mul-row : goal.overflow_mul-row
overflow_mul-row c = let s = row_small c.args.region c.args.channel.now c.sample_count.result c.bytes.result c.requires.region (search rules) c.bytes.ensures in omega arith

pub overflow_mul-result : goal.overflow_mul-result
overflow_mul-result c =
    let s = row_small c.args.region c.args.channel.now c.sample_count.result c.bytes.result c.requires.region (search rules) c.bytes.ensures in
    let t = rows_small c.args.channel.now.ys c.line_at-y.result 1 (c.sample_count.result * c.bytes.result) c.samples_at-here.result s (omega arith) (search rules) in
    omega arith

pub overflow_mul-result-2 : goal.overflow_mul-result-2
overflow_mul-result-2 c =
    let s = row_small c.args.region c.args.channel.now c.sample_count.result c.bytes.result c.requires.region (search rules) c.bytes.ensures in
    let t = above_small c.args.region c.args.channel.now.ys c.args.line (c.sample_count.result * c.bytes.result) c.count_before-above.result c.line_at-y.result c.requires.region c.requires.line c.line_at-y.ensures.exact s (search rules) in
    omega arith

pub overflow_mul-result-3 : goal.overflow_mul-result-3
overflow_mul-result-3 c =
    let s = row_small c.args.region c.args.channel.now c.sample_count.result c.bytes.result c.requires.region (search rules) c.bytes.ensures in
    let t = rows_small c.args.channel.now.ys c.args.region.y0 (span_of c.args.region.y0 c.args.region.y1) (c.sample_count.result * c.bytes.result) c.sample_count-all.result s c.requires.region.rows.few (search rules) in
    omega arith

pub returns : goal.returns
returns c =
    rows_are c.args.region c.args.channel.now c.args.line c.sample_count.result c.bytes.result c.samples_at-here.result c.count_before-above.result c.sample_count-all.result c.line_at-y.result
    c.line_at-y.ensures.exact (search rules) c.bytes.ensures (search rules) (search rules) (search rules)
