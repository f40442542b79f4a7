use Rattle.exr_b44.proofs.Vectors.{words-digits}
use Rattle.exr_b44.proofs.lanes.words.Goals as goal

pub returns : goal.returns
returns c = words-digits 8 c.args.lanes c.fits-lanes.0 c.fits-lanes.1
