use Rattle.exr_image.specs.Pieces.{AreTallies, ArePieces}
use Rattle.exr_image.proofs.pieces.push_rows.Given as goal

abbrev pub invariant-loop-row : goal.invariant-loop-row
invariant-loop-row l = record {
  pieces : ArePieces l.window l.chunks l.row 0 l.pieces.items;
  tallies : AreTallies l.chunks l.tallies;
}
