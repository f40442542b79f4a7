use Rattle.std.proofs.Common.{arith}
use Rattle.exr_codes.specs.Rest.{rest_at}
use Rattle.exr_codes.proofs.Rests.{window_skipped, rest_at-skip, length-rest_at}
use Rattle.exr_codes.proofs.window.Window.skip.Goals as goal

pub invariant_of-self : goal.invariant_of-self
invariant_of-self c =
    let w = c.args.self.now in
    let n = c.args.n in
    record {
      within = c.requires.within;
      few = omega (arith, w.few);
      filled = rw (rest_at-skip w.bytes.now w.at n) (window_skipped w.have n (rest_at w.bytes.now w.at) w.window c.requires.have w.few (omega (arith, length-rest_at w.bytes.now w.at, c.requires.within)) w.filled);
    }
