use Rattle.std.proofs.Common.{◌≡◌, ◌-◌, length, take}
use Rattle.exr_codes.specs.Tables.{lengths_at}
use Rattle.exr_codes.proofs.Filling.{IsBegun}
use Rattle.exr_codes.proofs.Reading.{behind}
use Rattle.exr_codes.proofs.table.fill_lengths.Given as goal

abbrev pub invariant-items : goal.invariant-items
invariant-items l = record {
  begun : IsBegun l.lengths l.count l.total;
  so_far : behind (take l.count l.lengths) (lengths_at (length l.lengths - l.count) l.reader) ≡ lengths_at (length l.lengths) l.fn.reader;
}

abbrev pub decreases-items : goal.decreases-items
decreases-items l = length l.lengths - l.count
