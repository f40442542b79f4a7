use Rattle.std.proofs.Common.{◌++◌, arith}
use Rattle.std.proofs.lemmas.List.{length-append}
use Rattle.exr_b44.specs.Lanes.{turned}
use Rattle.exr_b44.proofs.Depths.{are_below}
use Rattle.exr_b44.proofs.writing.below.Goals as goal

pub returns : goal.returns
unfolding turned
returns c = are_below (c.args.top ++ c.args.bottom) c.args.most (omega (arith, length-append c.args.top c.args.bottom, c.fits-top.0, c.fits-bottom.0)) c.ranges.most.fits c.requires
