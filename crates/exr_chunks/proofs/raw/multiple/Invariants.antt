use Rattle.std.proofs.Common.{◌-◌, ◌≡◌, ◌≤◌, ◌+◌, ◌%◌}
use Rattle.exr_chunks.proofs.raw.multiple.Given as goal

-- a multiple of the step, no further above the most than a step
abbrev pub invariant-steps : goal.invariant-steps
invariant-steps l = record {
  some : 1 ≤ l.period;
  small : l.period ≤ l.most + l.step;
  whole : l.period % l.step ≡ 0;
}

abbrev pub decreases-steps : goal.decreases-steps
decreases-steps l = l.most - l.period
