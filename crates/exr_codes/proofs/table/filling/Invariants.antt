use Rattle.std.proofs.Common.{◌≡◌, ◌<◌, length}
use Rattle.exr_base.specs.Bits.{number_of}
use Rattle.exr_codes.proofs.table.filling.Given as goal

abbrev pub invariant-bits : goal.invariant-bits
invariant-bits l = record {
  few : length l.fn.reader < 8;
  same : number_of l.reader ≡ number_of l.fn.reader;
}

abbrev pub decreases-bits : goal.decreases-bits
decreases-bits l = length l.reader
