use Rattle.exr_wavelet.specs.Places.{matrix_of}
use Rattle.exr_wavelet.specs.Level.{squares_along}
use Rattle.exr_wavelet.proofs.Placing.{becomes_then, becomes_as}
use Rattle.exr_wavelet.proofs.Levels.{odd_column_in, two_lines_done, two_lines_even}
use Rattle.exr_wavelet.proofs.level.step_two_lines.Goals as goal

pub step_column_at-requires-clause-column : goal.step_column_at-requires-clause-column
step_column_at-requires-clause-column c = odd_column_in c.args.p c.args.grid.nx c.requires.apart c.if-grid-p-eq1.true

pub returns-then-grid-p-eq1 : goal.returns-then-grid-p-eq1
returns-then-grid-p-eq1 c =
    let g = c.args.grid in
    let M = matrix_of c.args.words.now g in
    becomes_then c.args.words.now c.step_squares.new.words c.step_column_at.new.words g (squares_along c.args.way c.args.max g.nx c.args.p c.args.y M) _ _ c.step_squares.ensures c.step_column_at.ensures
    (two_lines_done c.args.way c.args.max c.args.p g.nx g.ny c.args.y M (matrix_of c.step_squares.new.words g) c.requires.apart c.requires.below c.step_squares.ensures.placed c.if-grid-p-eq1.true)

pub returns-else-grid-p-eq1 : goal.returns-else-grid-p-eq1
returns-else-grid-p-eq1 c =
    let g = c.args.grid in
    let M = matrix_of c.args.words.now g in
    becomes_as c.args.words.now c.step_squares.new.words g (squares_along c.args.way c.args.max g.nx c.args.p c.args.y M) _ c.step_squares.ensures
    (λ x y x_in y_in. two_lines_even c.args.way c.args.max c.args.p g.nx c.args.y M x y c.if-grid-p-eq1.false)
