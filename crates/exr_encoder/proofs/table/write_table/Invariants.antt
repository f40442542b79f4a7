use Rattle.std.proofs.Common.{◌≡◌, ◌-◌, ◌≤◌, ◌++◌, length, drop}
use Rattle.exr_encoder.specs.Spelling.{table_bits}
use Rattle.exr_encoder.proofs.table.write_table.Given as goal

abbrev pub invariant-items : goal.invariant-items
invariant-items l = record {
  within : l.at ≤ length l.lengths;
  so_far : l.writer ++ table_bits (drop l.at l.lengths) ≡ table_bits l.lengths;
}

abbrev pub decreases-items : goal.decreases-items
decreases-items l = length l.lengths - l.at
