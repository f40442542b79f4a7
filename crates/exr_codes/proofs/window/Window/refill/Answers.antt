use Rattle.std.proofs.Common.{arith}
use Rattle.exr_codes.specs.Rest.{rest_at}
use Rattle.exr_codes.proofs.Rests.{window_full, length-rest_at}
use Rattle.exr_codes.proofs.window.Window.refill.Goals as goal

pub invariant_of-self : goal.invariant_of-self
invariant_of-self c =
    let w = c.args.self.now in
    record {
      within = w.within;
      few = omega arith;
      filled = window_full (rest_at w.bytes.now w.at) c.bits_at-self.result c.bits_at-self.ensures (omega (arith, length-rest_at w.bytes.now w.at, w.within));
    }
