use Rattle.std.proofs.Common.{◌≤◌, ◌-◌}
use Rattle.exr_image.specs.Pieces.{AreTallies, ArePieces}
use Rattle.exr_image.proofs.pieces.push_row.Given as goal

-- the pieces are those of the rows above and of the columns so far
abbrev pub invariant-columns : goal.invariant-columns
invariant-columns l = record {
  pieces : ArePieces l.window l.chunks l.row l.column l.pieces.items;
  tallies : AreTallies l.chunks l.tallies;
  within : l.column ≤ l.width;
}

abbrev pub decreases-columns : goal.decreases-columns
decreases-columns l = l.width - l.column
