use Rattle.std.proofs.Common.{◌≡◌, ◌+◌, ◌*◌, ◌≤◌, ◌++◌}
use Rattle.exr_base.specs.Bits.{bits_of}
use Rattle.exr_encoder.specs.Writing.{written, times_bits}
use Rattle.exr_encoder.proofs.pen.put_times.Given as goal

abbrev pub invariant-copies : goal.invariant-copies
invariant-copies l = record {
  within : l.left ≤ l.times;
  on : 8 * l.pen.at + l.pen.have + l.len * l.left ≡ 8 * l.fn.pen.at + l.fn.pen.have + l.len * l.times;
  so_far : written l.pen.at l.pen.have l.pen.pending l.out ++ times_bits l.left (bits_of l.len l.number) ≡ written l.fn.pen.at l.fn.pen.have l.fn.pen.pending l.fn.out ++ times_bits l.times (bits_of l.len l.number);
}

abbrev pub decreases-copies : goal.decreases-copies
decreases-copies l = l.left
