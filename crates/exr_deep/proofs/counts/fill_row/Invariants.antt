use Rattle.std.proofs.Common.{◌≡◌, ◌+◌, ◌≤ℤ◌, pos, nat_abs, take}
use Rattle.std.specs.List.{sum}
use Rattle.exr_deep.specs.Steps.{AreCounted, entry_before_in}
use Rattle.exr_deep.proofs.counts.fill_row.Given as goal

abbrev pub invariant-loop-pixel : goal.invariant-loop-pixel
invariant-loop-pixel l = record {
  counted : AreCounted l.width l.table l.pixel l.counts;
  before : l.before ≡ entry_before_in l.first l.table l.pixel;
  rising : pos 0 ≤ℤ l.before;
  samples : sum (take l.pixel l.counts) ≡ sum (take l.first l.initial.counts) + nat_abs l.before;
}
