use Rattle.std.proofs.Common.{◌≡◌, ◌*◌, ◌/◌, ◌++◌, ap, ◌∙◌, arith}
use Rattle.exr_wavelet.specs.Places.{two_lines, matrix_of}
use Rattle.exr_wavelet.proofs.Placing.{becomes_same, becomes_then, becomes_as}
use Rattle.exr_wavelet.proofs.Levels.{square_put, square_puts, done_before, along_none, along_more, along_all}
use Rattle.exr_wavelet.proofs.lines.step_lines.Goals as goal

pub loop-i-init : goal.loop-i-init
loop-i-init c = let words = c.args.top.now ++ c.args.bottom.now in let g = two_lines c.args.nx in
    becomes_same words g _ (λ x y x_in y_in. along_none (square_put c.args.way c.args.max 1 0) 1 c.args.nx (matrix_of words g) x y)

pub loop-i-preserved : goal.loop-i-preserved
loop-i-preserved c =
    let l = c.loop-i in
    let g = two_lines c.args.nx in
    let put = square_put c.args.way c.args.max 1 0 in
    let old = c.args.top.now ++ c.args.bottom.now in
    let words = l.top ++ l.bottom in
    becomes_then old words (c.step_square_in.new.top ++ c.step_square_in.new.bottom) g (done_before put 1 c.args.nx (l.i * 2) (matrix_of old g)) (put (matrix_of words g) (l.i * 2)) _ l.invariant c.step_square_in.ensures
    (along_more put 1 c.args.nx 2 l.i (matrix_of old g) (matrix_of words g) (square_puts c.args.way c.args.max 1 c.args.nx 2 0 (omega arith)) (omega arith) c.loop-i-test.true l.invariant.placed)

pub returns : goal.returns
returns c =
    let l = c.loop-i in
    let g = two_lines c.args.nx in
    let put = square_put c.args.way c.args.max 1 0 in
    let old = c.args.top.now ++ c.args.bottom.now in
    let last : l.i ≡ c.args.nx / 2 = omega arith in
    becomes_as old (l.top ++ l.bottom) g _ _ l.invariant
    (λ x y x_in y_in. ap (λ n. done_before put 1 c.args.nx (n * 2) (matrix_of old g) x y) last ∙ along_all put 1 c.args.nx (matrix_of old g) x y (omega arith) x_in)
