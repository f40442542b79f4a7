use Rattle.std.proofs.Common.{◌≡◌, ℕ, ◌*◌, ◌<◌, take, drop, get_or}
use Rattle.std.specs.Int.{w16, from_le_bytes}
use Rattle.exr_piz.proofs.words.put_words.Given as goal

abbrev pub invariant-loop-k : goal.invariant-loop-k
invariant-loop-k l = (j : ℕ) → j < l.k → get_or l.words j 0 ≡ from_le_bytes w16 (take 2 (drop (2 * j) l.bytes))
