use Rattle.std.proofs.Common.{◌≡◌, take, fold}
use Rattle.exr_bench.specs.Checksum.{with_value}
use Rattle.exr_bench.proofs.checksum.add_all_words.Given as goal

abbrev pub invariant-loop-word : goal.invariant-loop-word
invariant-loop-word l = l.sum ≡ fold with_value l.fn.sum (take l.word-index l.words)
