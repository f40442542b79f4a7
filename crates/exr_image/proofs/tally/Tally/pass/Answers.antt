use Rattle.std.proofs.Common.{◌-◌, drop, arith}
use Rattle.std.proofs.lemmas.List.{length-drop, length-take-le}
use Rattle.exr_image.proofs.Sums.{passed}
use Rattle.exr_image.proofs.tally.Tally.pass.Goals as goal

pub returns-clause-tally : goal.returns-clause-tally
returns-clause-tally c =
    let counts = c.args.counts.now in
    let tally = c.args.self.now in
    let rest = length-drop tally.pixels counts in
    let long = length-take-le (c.args.to - tally.pixels) (drop tally.pixels counts) (omega (arith, rest, c.requires.within)) in
    let small = c.sum_of-more.ensures.small in
    passed counts tally c.args.to c.sum_of-more.result c.requires.tally c.requires.forward c.requires.within c.sum_of-more.ensures.exact (omega (arith, long, small))
