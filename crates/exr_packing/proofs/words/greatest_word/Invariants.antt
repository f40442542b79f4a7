use Rattle.std.proofs.Common.{◌≡◌, take, max, fold}
use Rattle.exr_packing.proofs.words.greatest_word.Given as goal

abbrev pub invariant-loop-word : goal.invariant-loop-word
invariant-loop-word l = l.greatest ≡ fold max 0 (take l.word-index l.words)
