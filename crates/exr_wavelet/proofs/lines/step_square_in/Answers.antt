use Rattle.exr_wavelet.proofs.TwoLines.{becomes_lines}
use Rattle.exr_wavelet.proofs.lines.step_square_in.Goals as goal

pub returns : goal.returns
returns c =
    becomes_lines c.args.top.now c.args.bottom.now c.args.nx c.args.x c.args.way c.args.max c.step_square-stepped.result
    c.requires.top c.requires.bottom c.requires.right c.step_square-stepped.ensures
