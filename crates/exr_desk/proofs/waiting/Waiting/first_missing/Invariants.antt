use Rattle.std.proofs.Common.{ℕ, ◌<◌, IsSome}
use Rattle.exr_desk.specs.Accepted.{chunk_of}
use Rattle.exr_desk.proofs.waiting.Waiting.first_missing.Given as goal

abbrev pub invariant-loop-turn : goal.invariant-loop-turn
invariant-loop-turn l = (u : ℕ) → u < l.turn → IsSome (chunk_of l.self.accepted u)
