use Rattle.std.proofs.Common.{◌≡◌, ℕ, ◌<◌, cond, length, take, get_or}
use Rattle.exr_piz.specs.Values.{occurs}
use Rattle.exr_piz.proofs.marks.put_marks.Given as goal

abbrev pub invariant-loop-word : goal.invariant-loop-word
invariant-loop-word l = (v : ℕ) → v < length l.marks → get_or l.marks v 0 ≡ cond (occurs (take l.word-index l.words) v) 1 0
