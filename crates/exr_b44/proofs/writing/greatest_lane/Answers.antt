use Rattle.std.proofs.Common.{refl}
use Rattle.exr_b44.proofs.Vectors.{whole8}
use Rattle.exr_b44.proofs.Depths.{tree_greatest}
use Rattle.exr_b44.proofs.writing.greatest_lane.Goals as goal

pub returns-clause-long : goal.returns-clause-long
returns-clause-long c = rw (whole8 c.args.top c.fits-top.0, whole8 c.args.bottom c.fits-bottom.0) refl

pub returns-clause-first : goal.returns-clause-first
returns-clause-first c = tree_greatest c.args.top c.args.bottom c.fits-top.0 c.fits-bottom.0
