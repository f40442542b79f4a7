use Rattle.std.proofs.Common.{◌≡◌, ◌+◌, ◌*◌, ◌≤◌, min, length, drop}
use Rattle.exr_b44.specs.Plane.{cells_for, cells_len}
use Rattle.exr_b44.proofs.Planes.{PlanePut}
use Rattle.exr_b44.proofs.unpacking.unpack_halves.Given as goal

abbrev pub invariant-loop-band : goal.invariant-loop-band
invariant-loop-band l = record {
  within : l.at ≤ length l.packed;
  cells : l.at ≡ l.from + cells_len (l.band * cells_for l.nx) (drop l.from l.packed);
  put : PlanePut l.initial.lines l.lines (drop l.from l.packed) l.stripe.line l.stripe.first (2 * l.nx) (cells_for l.nx) (min l.ny (4 * l.band));
}
