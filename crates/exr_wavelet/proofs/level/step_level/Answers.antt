use Rattle.std.proofs.Common.{◌≡◌, ◌*◌, ◌/◌, ap, ◌∙◌, arith}
use Rattle.exr_wavelet.specs.Level.{pairs_along, two_lines_of}
use Rattle.exr_wavelet.specs.Places.{matrix_of}
use Rattle.exr_wavelet.proofs.Placing.{becomes_then, becomes_as}
use Rattle.exr_wavelet.proofs.Levels.{odd_column_in, lines_done, lines_more, level_even, level_odd}
use Rattle.exr_wavelet.proofs.level.step_level.Goals as goal

pub loop-j-preserved : goal.loop-j-preserved
loop-j-preserved c =
    let g = c.args.grid in
    let p = c.args.p in
    let M = matrix_of c.args.words.now g in
    let l = c.loop-j in
    becomes_then c.args.words.now l.words c.step_two_lines.new.words g (lines_done c.args.way c.args.max g.nx g.ny p (l.j * (2 * p)) M) (two_lines_of c.args.way c.args.max g.nx p (l.j * (2 * p)) (matrix_of l.words g)) _ l.invariant c.step_two_lines.ensures
    (lines_more c.args.way c.args.max g.nx g.ny p l.j M (matrix_of l.words g) c.requires.apart c.loop-j-test.true l.invariant.placed)

pub step_pairs-requires-clause-line : goal.step_pairs-requires-clause-line
step_pairs-requires-clause-line c = odd_column_in c.args.p c.args.grid.ny c.requires.apart c.if-grid-p-eq1.true

pub returns-then-grid-p-eq1 : goal.returns-then-grid-p-eq1
returns-then-grid-p-eq1 c =
    let g = c.args.grid in
    let p = c.args.p in
    let M = matrix_of c.args.words.now g in
    let l = c.loop-j in
    let last : l.j ≡ g.ny / (2 * p) = omega arith in
    becomes_then c.args.words.now l.words c.step_pairs.new.words g (lines_done c.args.way c.args.max g.nx g.ny p (l.j * (2 * p)) M) (pairs_along c.args.way c.args.max g.nx p (g.ny / (2 * p) * (2 * p)) (matrix_of l.words g)) _ l.invariant c.step_pairs.ensures
    (level_odd c.args.way c.args.max g.nx g.ny p M (matrix_of l.words g) c.requires.apart c.if-grid-p-eq1.true
    (λ x y x_in y_in. l.invariant.placed x y x_in y_in ∙ ap (λ n. lines_done c.args.way c.args.max g.nx g.ny p (n * (2 * p)) M x y) last))

pub returns-else-grid-p-eq1 : goal.returns-else-grid-p-eq1
returns-else-grid-p-eq1 c =
    let g = c.args.grid in
    let p = c.args.p in
    let M = matrix_of c.args.words.now g in
    let l = c.loop-j in
    let last : l.j ≡ g.ny / (2 * p) = omega arith in
    becomes_as c.args.words.now l.words g (lines_done c.args.way c.args.max g.nx g.ny p (l.j * (2 * p)) M) _ l.invariant
    (λ x y x_in y_in. ap (λ n. lines_done c.args.way c.args.max g.nx g.ny p (n * (2 * p)) M x y) last ∙ level_even c.args.way c.args.max g.nx g.ny p M x y c.requires.apart y_in c.if-grid-p-eq1.false)
