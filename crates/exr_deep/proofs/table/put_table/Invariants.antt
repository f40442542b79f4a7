use Rattle.std.proofs.Common.{◌≡◌, ◌*◌, take}
use Rattle.exr_deep.specs.Steps.{entries_of}
use Rattle.exr_deep.proofs.table.put_table.Given as goal

abbrev pub invariant-loop-row : goal.invariant-loop-row
invariant-loop-row l = take (4 * (l.row * l.width)) l.table ≡ entries_of l.width l.counts (l.row * l.width)
