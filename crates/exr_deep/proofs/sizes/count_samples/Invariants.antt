use Rattle.std.proofs.Common.{◌≡◌, ◌≤◌, ◌*◌, ◌^◌, take}
use Rattle.std.specs.List.{sum}
use Rattle.exr_deep.specs.Steps.{AreInts}
use Rattle.exr_deep.proofs.sizes.count_samples.Given as goal

abbrev pub invariant-loop-row : goal.invariant-loop-row
invariant-loop-row l = record {
  ints : AreInts l.width l.counts (l.row * l.width);
  samples : l.samples ≡ sum (take (l.row * l.width) l.counts);
  small : l.samples ≤ l.row * 2 ^ 31;
}
