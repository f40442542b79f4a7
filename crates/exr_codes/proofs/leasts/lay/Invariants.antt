use Rattle.std.proofs.Common.{◌≡◌, ℕ, ◌<◌, ◌≤◌, slice_index}
use Rattle.exr_codes.proofs.leasts.lay.Given as goal

abbrev pub invariant-loop-front : goal.invariant-loop-front
invariant-loop-front l = record {
  laid : (front : ℕ) → l.from ≤ front → front < l.front → slice_index l.leasts front ≡ l.least;
  kept : (front : ℕ) → front < l.from → slice_index l.leasts front ≡ slice_index l.fn.leasts front;
}
