use Rattle.exr_wavelet.proofs.Placing.{column_rewritten}
use Rattle.exr_wavelet.proofs.level.step_column_at.Goals as goal

pub returns : goal.returns
returns c =
    column_rewritten c.args.words.now c.args.grid c.args.x c.args.y c.args.p c.args.way c.args.max c.place-first.result c.place-below.result
    c.requires.spread c.requires.apart c.requires.within c.requires.column c.requires.below
    c.place-first.ensures.exact c.place-below.ensures.exact c.step-stepped.result c.step-stepped.ensures
