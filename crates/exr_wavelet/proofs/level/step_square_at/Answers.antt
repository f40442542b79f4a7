use Rattle.exr_wavelet.proofs.Placing.{square_rewritten}
use Rattle.exr_wavelet.proofs.level.step_square_at.Goals as goal

pub returns : goal.returns
returns c =
    square_rewritten c.args.words.now c.args.grid c.args.x c.args.y c.args.p c.args.way c.args.max c.place-first.result c.place-right.result c.place-below.result c.place-across.result
    c.requires.spread c.requires.apart c.requires.within c.requires.right c.requires.below
    c.place-first.ensures.exact c.place-right.ensures.exact c.place-below.ensures.exact c.place-across.ensures.exact
    c.step_square-stepped.result c.step_square-stepped.ensures
