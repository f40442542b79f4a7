use Rattle.std.proofs.Common.{◌*◌}
use Rattle.exr_wavelet.specs.Places.{matrix_of, Becomes}
use Rattle.exr_wavelet.proofs.Levels.{done_before, square_put}
use Rattle.exr_wavelet.proofs.level.step_squares.Given as goal

abbrev pub invariant-loop-i : goal.invariant-loop-i
invariant-loop-i l = Becomes l.initial.words l.words l.grid (done_before (square_put l.way l.max l.p l.y) l.p l.grid.nx (l.i * (2 * l.p)) (matrix_of l.initial.words l.grid))
