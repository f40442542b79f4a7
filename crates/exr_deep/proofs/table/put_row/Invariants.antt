use Rattle.std.proofs.Common.{◌≡◌, ◌*◌, take}
use Rattle.exr_deep.specs.Steps.{entries_of, running_before_in}
use Rattle.exr_deep.proofs.table.put_row.Given as goal

abbrev pub invariant-loop-pixel : goal.invariant-loop-pixel
invariant-loop-pixel l = record {
  written : take (4 * l.pixel) l.table ≡ entries_of l.width l.counts l.pixel;
  samples : l.samples ≡ running_before_in l.width l.first l.counts l.pixel;
}
