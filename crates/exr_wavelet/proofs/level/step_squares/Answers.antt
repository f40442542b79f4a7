use Rattle.std.proofs.Common.{◌≡◌, ◌+◌, ◌*◌, ◌/◌, ◌≤◌, ap, ◌∙◌, arith}
use Rattle.exr_wavelet.specs.Places.{matrix_of}
use Rattle.exr_wavelet.proofs.Placing.{becomes_same, becomes_then, becomes_as}
use Rattle.exr_wavelet.proofs.Levels.{square_put, square_puts, done_before, along_none, along_more, along_all, part_fits}
use Rattle.exr_wavelet.proofs.level.step_squares.Goals as goal

pub loop-i-init : goal.loop-i-init
loop-i-init c = becomes_same c.args.words.now c.args.grid _ (λ x y x_in y_in. along_none (square_put c.args.way c.args.max c.args.p c.args.y) c.args.p c.args.grid.nx (matrix_of c.args.words.now c.args.grid) x y)

pub step_square_at-requires-clause-within : goal.step_square_at-requires-clause-within
step_square_at-requires-clause-within c x y x_in y_in = omega (arith, c.requires.within x y x_in y_in)

pub step_square_at-requires-clause-right : goal.step_square_at-requires-clause-right
step_square_at-requires-clause-right c =
    let fits : c.loop-i.i * (2 * c.args.p) + 2 * c.args.p ≤ c.args.grid.nx = part_fits c.args.p c.args.grid.nx c.loop-i.i c.requires.apart c.loop-i-test.true in
    omega arith

pub loop-i-preserved : goal.loop-i-preserved
loop-i-preserved c =
    let g = c.args.grid in
    let put = square_put c.args.way c.args.max c.args.p c.args.y in
    let M = matrix_of c.args.words.now g in
    let l = c.loop-i in
    becomes_then c.args.words.now l.words c.step_square_at.new.words g (done_before put c.args.p g.nx (l.i * (2 * c.args.p)) M) (put (matrix_of l.words g) (l.i * (2 * c.args.p))) _ l.invariant c.step_square_at.ensures
    (along_more put c.args.p g.nx g.ny l.i M (matrix_of l.words g) (square_puts c.args.way c.args.max c.args.p g.nx g.ny c.args.y c.requires.below) c.requires.apart c.loop-i-test.true l.invariant.placed)

pub returns : goal.returns
returns c =
    let g = c.args.grid in
    let put = square_put c.args.way c.args.max c.args.p c.args.y in
    let M = matrix_of c.args.words.now g in
    let l = c.loop-i in
    let last : l.i ≡ g.nx / (2 * c.args.p) = omega arith in
    becomes_as c.args.words.now l.words g _ _ l.invariant
    (λ x y x_in y_in. ap (λ n. done_before put c.args.p g.nx (n * (2 * c.args.p)) M x y) last ∙ along_all put c.args.p g.nx M x y c.requires.apart x_in)
