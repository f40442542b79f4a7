use Rattle.exr_wavelet.proofs.Placing.{line_rewritten}
use Rattle.exr_wavelet.proofs.level.step_line_at.Goals as goal

pub returns : goal.returns
returns c =
    line_rewritten c.args.words.now c.args.grid c.args.x c.args.y c.args.p c.args.way c.args.max c.place-first.result c.place-right.result
    c.requires.spread c.requires.apart c.requires.within c.requires.right c.requires.line
    c.place-first.ensures.exact c.place-right.ensures.exact c.step-stepped.result c.step-stepped.ensures
