use Rattle.std.proofs.Common.{arith}
use Rattle.exr_wavelet.proofs.Waves.{encoded_none, encoded_more, encoded_all}
use Rattle.exr_wavelet.proofs.wave.encode_levels.Goals as goal

pub levels-init : goal.levels-init
levels-init c = record { some = omega arith; done = encoded_none c.args.words.now c.args.grid c.args.max }

pub levels-preserved : goal.levels-preserved
levels-preserved c = record {
  some = omega arith;
  done = encoded_more c.args.words.now c.levels.words c.step_level.new.words c.args.grid c.args.max c.levels.p (omega arith) c.levels.invariant.done c.step_level.ensures;
}

pub returns : goal.returns
returns c = encoded_all c.args.words.now c.levels.words c.args.grid c.args.max c.levels.p (omega arith) c.levels.invariant.done
