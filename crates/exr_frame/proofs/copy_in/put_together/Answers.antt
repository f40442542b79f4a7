use Rattle.exr_frame.proofs.Putting.{row_copied, laid}
use Rattle.exr_frame.proofs.copy_in.put_together.Goals as goal

pub returns : goal.returns
returns c = row_copied c.args.at c.args.samples c.args.size c.args.from.now c.args.into.now _ c.requires.some c.requires.from c.requires.room (laid c.args.at c.args.into.now c.args.from.now c.copy_from_slice.new.self c.copy_from_slice.ensures.after)
