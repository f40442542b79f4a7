use Rattle.std.proofs.Common.{◌*◌}
use Rattle.exr_wavelet.specs.Places.{matrix_of, Becomes}
use Rattle.exr_wavelet.proofs.Levels.{lines_done}
use Rattle.exr_wavelet.proofs.level.step_level.Given as goal

abbrev pub invariant-loop-j : goal.invariant-loop-j
invariant-loop-j l = Becomes l.initial.words l.words l.grid (lines_done l.way l.max l.grid.nx l.grid.ny l.p (l.j * (2 * l.p)) (matrix_of l.initial.words l.grid))
