use Rattle.std.proofs.Common.{◌+◌, ◌-◌}
use Rattle.exr_wavelet.proofs.TwoLines.{becomes_part, part_len}
use Rattle.exr_wavelet.proofs.level.step_side_by_side.Goals as goal

pub returns : goal.returns
returns c =
    becomes_part c.args.words.now c.step_both.new.lines c.args.grid c.place-first.result (c.place-last.result + 1 - c.place-first.result) c.args.y c.args.way c.args.max
    c.requires.within c.requires.spread c.requires.wide c.requires.below c.place-first.ensures.exact
    (part_len c.args.grid c.args.y c.place-first.result c.place-last.result c.requires.spread c.requires.wide c.place-first.ensures.exact c.place-last.ensures.exact)
    c.step_both.auto.lines c.step_both.ensures
