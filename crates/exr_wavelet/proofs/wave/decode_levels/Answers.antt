use Rattle.std.proofs.Common.{◌/◌, min, refl, arith}
use Rattle.exr_wavelet.proofs.Waves.{reached_none, reached_more, decoding_none, decoding_more, decoding_all}
use Rattle.exr_wavelet.proofs.wave.decode_levels.Goals as goal

pub steps-init : goal.steps-init
steps-init c = record { some = omega arith; reached = reached_none (min c.args.grid.nx c.args.grid.ny) }

pub steps-preserved : goal.steps-preserved
steps-preserved c = record { some = omega arith; reached = reached_more (min c.args.grid.nx c.args.grid.ny) c.steps.p (omega arith) c.steps.invariant.reached }

pub levels-init : goal.levels-init
levels-init c = record { some = omega arith; done = decoding_none c.args.words.now c.args.grid c.args.max c.steps.p (omega arith) c.steps.invariant.reached }

pub levels-preserved : goal.levels-preserved
levels-preserved c = record {
  some = omega arith;
  done = decoding_more c.args.words.now c.levels.words c.step_level.new.words c.args.grid c.args.max c.levels.p (c.levels.p / 2) (omega arith) refl c.levels.invariant.done c.step_level.ensures;
}

pub returns : goal.returns
returns c = decoding_all c.args.words.now c.levels.words c.args.grid c.args.max c.levels.p (omega arith) c.levels.invariant.done
