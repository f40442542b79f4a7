use Rattle.std.proofs.Common.{ap, length}
use Rattle.exr_frame.proofs.Gathered.{all_read}
use Rattle.exr_frame.proofs.gathering.gather.Goals as goal

pub returns : goal.returns
returns c = all_read c.args.layout.now c.args.shape.now.channels.now c.args.shape.now.region c.args.plan.now.channels c.args.from.now c.in_ok-raw.raw.items c.take_lines.new.raw.items (ap length c.in_ok-raw.ensures.items) c.in_ok-take_lines.ensures
