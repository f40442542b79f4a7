use Rattle.exr_deep.proofs.Fitting.{run_lengths_size}
use Rattle.exr_deep.proofs.stored.unpack_stored.Goals as goal

pub returns-in-Ok-clause-size : goal.returns-in-Ok-clause-size
returns-in-Ok-clause-size c = run_lengths_size c.in-Ok.raw.items c.args.size c.in-Ok.ensures.found
