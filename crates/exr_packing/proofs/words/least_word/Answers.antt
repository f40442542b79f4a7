use Rattle.std.proofs.Common.{min, fold, ap, ◌∙◌}
use Rattle.std.proofs.lemmas.List.{take_all}
use Rattle.exr_packing.specs.Packed.{least_of}
use Rattle.exr_packing.proofs.words.least_word.Goals as goal

pub returns : goal.returns
unfolding least_of
returns c = c.loop-word.invariant ∙ ap (fold min 65535) (take_all c.loop-word.word-index c.args.words.now c.loop-word-test.false)
