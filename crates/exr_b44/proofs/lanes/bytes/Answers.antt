use Rattle.exr_b44.proofs.Vectors.{bytes-digits}
use Rattle.exr_b44.proofs.lanes.bytes.Goals as goal

pub returns : goal.returns
returns c = bytes-digits 8 c.args.lanes c.fits-lanes.0 c.fits-lanes.1
