use Rattle.std.proofs.Common.{◌≡◌, ◌+◌, ◌*◌, ◌≤◌, ◌++◌, take}
use Rattle.std.specs.List.{flat_map, range_with_len}
use Rattle.exr_b44.specs.Cell.{cell_of}
use Rattle.exr_b44.specs.Plane.{cells_for, cell_in}
use Rattle.exr_b44.proofs.packing.pack_band.Given as goal

abbrev pub invariant-loop-column : goal.invariant-loop-column
invariant-loop-column l = record {
  few : l.at ≤ l.to + 14 * l.column;
  cells : take l.at l.into ≡ take l.to l.initial.into ++ flat_map (λ n. cell_of (cell_in l.nx l.ny l.rows n) l.flat) (range_with_len (l.line * cells_for l.nx) l.column);
}
