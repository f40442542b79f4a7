use Rattle.std.proofs.Common.{◌≡◌, ◌+◌, ◌*◌, take, refl, ◌∙◌, arith}
use Rattle.std.specs.List.{sum}
use Rattle.exr_deep.specs.Counts.{running_at}
use Rattle.exr_deep.proofs.Rows.{IsInRow}
use Rattle.exr_deep.proofs.Running.{running_here, running_next, not_ints, ints_more, sum_more}
use Rattle.exr_deep.proofs.sizes.count_row.Goals as goal

pub returns-then-samples-clause-ints : goal.returns-then-samples-clause-ints
returns-then-samples-clause-ints c =
    let l = c.loop-pixel in
    let is : IsInRow c.args.width (c.args.row * c.args.width) l.pixel = record { row = c.args.row; begins = refl; from = omega arith; below = omega arith } in
    let here = running_here c.args.width (c.args.row * c.args.width) l.pixel c.args.counts.now is (omega arith) in
    not_ints c.args.width l.pixel c.args.counts.now (omega arith) (omega (arith, c.from-samples.ensures))

pub loop-pixel-preserved : goal.loop-pixel-preserved
loop-pixel-preserved c =
    let l = c.loop-pixel in
    let first = c.args.row * c.args.width in
    let counts = c.args.counts.now in
    let is : IsInRow c.args.width first l.pixel = record { row = c.args.row; begins = refl; from = omega arith; below = omega arith } in
    let here = running_here c.args.width first l.pixel counts is (omega arith) in
    let now : l.samples + c.from-samples.result ≡ running_at c.args.width counts l.pixel = omega (arith, c.from-samples.ensures) in
    record {
      ints = ints_more c.args.width l.pixel counts l.invariant.ints (omega arith);
      running = now ∙ running_next c.args.width first l.pixel counts (omega arith);
      samples = sum_more counts l.pixel (sum (take first counts)) l.samples c.from-samples.result (omega arith) l.invariant.samples c.from-samples.ensures;
      small = omega arith;
    }
