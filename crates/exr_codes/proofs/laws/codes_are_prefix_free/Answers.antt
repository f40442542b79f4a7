use Rattle.exr_codes.proofs.Intervals.{prefix_free}
use Rattle.exr_codes.proofs.laws.codes_are_prefix_free.Goals as goal

pub returns : goal.returns
returns c = prefix_free c.args.lengths.now c.requires
