use Rattle.std.proofs.Common.{max, fold, ap, ◌∙◌}
use Rattle.std.proofs.lemmas.List.{take_all}
use Rattle.exr_packing.specs.Packed.{greatest_of}
use Rattle.exr_packing.proofs.words.greatest_word.Goals as goal

pub returns : goal.returns
unfolding greatest_of
returns c = c.loop-word.invariant ∙ ap (fold max 0) (take_all c.loop-word.word-index c.args.words.now c.loop-word-test.false)
