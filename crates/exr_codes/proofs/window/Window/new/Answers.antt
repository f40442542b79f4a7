use Rattle.std.proofs.Common.{arith}
use Rattle.exr_codes.specs.Rest.{rest_at}
use Rattle.exr_codes.proofs.Rests.{window_none}
use Rattle.exr_codes.proofs.window.Window.new.Goals as goal

pub invariant_of-result : goal.invariant_of-result
invariant_of-result c = record { within = omega arith; few = omega arith; filled = window_none (rest_at c.args.bytes.now 0) }
