use Rattle.std.proofs.Common.{◌≡◌, ◌+◌, ◌-◌, ◌*◌, ◌≤◌, length, drop}
use Rattle.exr_b44.specs.Plane.{cells_len}
use Rattle.exr_b44.proofs.Planes.{BandPut}
use Rattle.exr_b44.proofs.flats.unpack_flats.Given as goal

abbrev pub invariant-cells : goal.invariant-cells
invariant-cells l = record {
  few : l.cells ≤ l.most;
  at : l.at ≡ l.from + 3 * l.cells;
  within : l.at ≤ length l.packed;
  taken : cells_len l.cells (drop l.from l.packed) ≡ 3 * l.cells;
  put : BandPut l.initial.lines l.lines (drop l.from l.packed) l.stripe.line l.stripe.first (8 * l.most) 4 (8 * l.cells);
}

abbrev pub decreases-cells : goal.decreases-cells
decreases-cells l = l.most - l.cells
