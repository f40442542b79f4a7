use Rattle.std.proofs.Common.{◌≡◌, ◌+◌, ◌<◌, ◌^◌, take}
use Rattle.std.specs.List.{sum}
use Rattle.exr_deep.specs.Steps.{AreInts, running_before_in}
use Rattle.exr_deep.proofs.sizes.count_row.Given as goal

abbrev pub invariant-loop-pixel : goal.invariant-loop-pixel
invariant-loop-pixel l = record {
  ints : AreInts l.width l.counts l.pixel;
  running : l.samples ≡ running_before_in l.width l.first l.counts l.pixel;
  samples : sum (take l.pixel l.counts) ≡ sum (take l.first l.counts) + l.samples;
  small : l.samples < 2 ^ 31;
}
