use Rattle.std.proofs.Common.{◌*◌, ◌++◌}
use Rattle.exr_wavelet.specs.Places.{two_lines, matrix_of, Becomes}
use Rattle.exr_wavelet.proofs.Levels.{square_put, done_before}
use Rattle.exr_wavelet.proofs.lines.step_lines.Given as goal

abbrev pub invariant-loop-i : goal.invariant-loop-i
invariant-loop-i l = let words = l.fn.top ++ l.fn.bottom in
    Becomes words (l.top ++ l.bottom) (two_lines l.nx) (done_before (square_put l.way l.max 1 0) 1 l.nx (l.i * 2) (matrix_of words (two_lines l.nx)))
