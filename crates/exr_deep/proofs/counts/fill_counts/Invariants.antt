use Rattle.std.proofs.Common.{◌≡◌, ◌≤◌, ◌*◌, ◌^◌, take}
use Rattle.std.specs.List.{sum}
use Rattle.exr_deep.specs.Steps.{AreCounted}
use Rattle.exr_deep.proofs.counts.fill_counts.Given as goal

abbrev pub invariant-loop-row : goal.invariant-loop-row
invariant-loop-row l = record {
  counted : AreCounted l.width l.table (l.row * l.width) l.counts;
  samples : l.samples ≡ sum (take (l.row * l.width) l.counts);
  small : l.samples ≤ l.row * 2 ^ 31;
}
