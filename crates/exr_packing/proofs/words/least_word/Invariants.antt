use Rattle.std.proofs.Common.{◌≡◌, take, min, fold}
use Rattle.exr_packing.proofs.words.least_word.Given as goal

abbrev pub invariant-loop-word : goal.invariant-loop-word
invariant-loop-word l = l.least ≡ fold min 65535 (take l.word-index l.words)
