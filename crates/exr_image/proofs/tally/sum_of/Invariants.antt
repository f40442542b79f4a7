use Rattle.std.proofs.Common.{◌≡◌, ◌≤◌, ◌*◌, ◌^◌, take}
use Rattle.std.specs.List.{sum}
use Rattle.exr_image.proofs.tally.sum_of.Given as goal

abbrev pub invariant-loop-count : goal.invariant-loop-count
invariant-loop-count l = record {
  counted : l.samples ≡ sum (take l.count-index l.counts);
  small : l.samples ≤ l.count-index * 2 ^ 32;
}
