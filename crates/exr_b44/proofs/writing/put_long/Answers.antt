use Rattle.std.proofs.Common.{◌/◌, ◌%◌}
use Rattle.exr_b44.proofs.Written.{long_put}
use Rattle.exr_b44.proofs.writing.put_long.Goals as goal

pub returns : goal.returns
returns c = long_put c.args.into.now c.args.sixes c.args.to (c.args.first / 256) (c.args.first % 256) c.fits-sixes.0 c.requires
