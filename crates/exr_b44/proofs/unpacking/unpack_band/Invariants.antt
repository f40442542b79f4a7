use Rattle.std.proofs.Common.{◌≡◌, ◌+◌, ◌-◌, ◌*◌, ◌/◌, ◌≤◌, length, drop}
use Rattle.exr_b44.specs.Plane.{cells_len}
use Rattle.exr_b44.proofs.Planes.{BandPut}
use Rattle.exr_b44.proofs.unpacking.unpack_band.Given as goal

abbrev pub invariant-cells : goal.invariant-cells
invariant-cells l = record {
  within : l.at ≤ length l.packed;
  upto : l.i ≤ (l.wide + 7) / 8;
  cells : l.at ≡ l.from + cells_len l.i (drop l.from l.packed);
  put : BandPut l.initial.lines l.lines (drop l.from l.packed) l.stripe.line l.stripe.first l.wide l.count (8 * l.i);
}

abbrev pub decreases-cells : goal.decreases-cells
decreases-cells l = (l.wide + 7) / 8 - l.i
