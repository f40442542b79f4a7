use Rattle.std.proofs.Common.{◌≡◌, ℕ, ◌+◌, ◌-◌, ◌*◌, ◌<◌, ◌≤◌, get_or}
use Rattle.exr_rle.proofs.halves.take_apart.Given as goal

abbrev pub invariant-sixteens : goal.invariant-sixteens
invariant-sixteens l = record {
  within : l.at ≤ l.pairs;
  evens : (k : ℕ) → k < l.at → get_or l.into k 0 ≡ get_or l.raw (2 * k) 0;
  odds : (k : ℕ) → k < l.at → get_or l.into (l.middle + k) 0 ≡ get_or l.raw (2 * k + 1) 0;
}

abbrev pub decreases-sixteens : goal.decreases-sixteens
decreases-sixteens l = l.pairs - l.at

abbrev pub invariant-loop-k : goal.invariant-loop-k
invariant-loop-k l = record {
  evens : (j : ℕ) → j < l.k → get_or l.into j 0 ≡ get_or l.raw (2 * j) 0;
  odds : (j : ℕ) → j < l.k → get_or l.into (l.middle + j) 0 ≡ get_or l.raw (2 * j + 1) 0;
}
