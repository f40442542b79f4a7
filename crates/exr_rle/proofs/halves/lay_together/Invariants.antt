use Rattle.std.proofs.Common.{◌≡◌, ℕ, ◌+◌, ◌-◌, ◌*◌, ◌/◌, ◌%◌, ◌<◌, ◌≤◌, cond, eqb, length, get_or}
use Rattle.exr_rle.proofs.halves.lay_together.Given as goal

abbrev pub invariant-sixteens : goal.invariant-sixteens
invariant-sixteens l = record {
  within : l.at ≤ l.pairs;
  laid : (j : ℕ) → j < 2 * l.at → get_or l.raw j 0 ≡ cond (eqb (j % 2) 0) (get_or l.halves (j / 2) 0) (get_or l.halves ((length l.halves + 1) / 2 + j / 2) 0);
}

abbrev pub decreases-sixteens : goal.decreases-sixteens
decreases-sixteens l = l.pairs - l.at

abbrev pub invariant-loop-k : goal.invariant-loop-k
invariant-loop-k l = (j : ℕ) → j < 2 * l.k → get_or l.raw j 0 ≡ cond (eqb (j % 2) 0) (get_or l.halves (j / 2) 0) (get_or l.halves ((length l.halves + 1) / 2 + j / 2) 0)
