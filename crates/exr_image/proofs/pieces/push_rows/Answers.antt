use Rattle.exr_image.proofs.Along.{next_row}
use Rattle.exr_image.proofs.pieces.push_rows.Goals as goal

pub loop-row-preserved : goal.loop-row-preserved
loop-row-preserved c = record {
  pieces = next_row c.args.window c.args.chunks.now c.loop-row.row c.push_row.new.pieces.items c.in_ok-hint.ensures.pieces;
  tallies = c.in_ok-hint.ensures.tallies;
}
