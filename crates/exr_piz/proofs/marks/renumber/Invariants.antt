use Rattle.std.proofs.Common.{◌≡◌, ◌++◌, map, take, drop, get_or}
use Rattle.exr_piz.proofs.marks.renumber.Given as goal

abbrev pub invariant-loop-word : goal.invariant-loop-word
invariant-loop-word l = l.words ≡ map (λ w. get_or l.ranks w 0) (take l.word-index l.initial.words) ++ drop l.word-index l.initial.words
