use Rattle.std.proofs.Common.{◌≡◌, ◌+◌, ◌*◌, ◌≤◌, ◌++◌, take}
use Rattle.std.specs.List.{flat_map, range_with_len}
use Rattle.exr_b44.specs.Cell.{cell_of}
use Rattle.exr_b44.specs.Plane.{cells_for, cell_in}
use Rattle.exr_b44.proofs.packing.pack_plane.Given as goal

abbrev pub invariant-loop-line : goal.invariant-loop-line
invariant-loop-line l = record {
  few : l.at ≤ l.to + 14 * (l.line * cells_for l.nx);
  cells : take l.at l.into ≡ take l.to l.initial.into ++ flat_map (λ n. cell_of (cell_in l.nx l.ny l.rows n) l.flat) (range_with_len 0 (l.line * cells_for l.nx));
}
