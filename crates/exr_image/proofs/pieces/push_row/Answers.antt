use Rattle.std.proofs.Common.{List, sym, subst, arith, ◌+◌}
use Rattle.exr_image.specs.declared.piece.Piece.{Piece}
use Rattle.exr_image.specs.Pieces.{ArePieces}
use Rattle.exr_image.proofs.Places.{columns_fit}
use Rattle.exr_image.proofs.Along.{pieces_more}
use Rattle.exr_image.proofs.pieces.push_row.Goals as goal

pub columns-preserved : goal.columns-preserved
columns-preserved c =
    let l = c.columns in
    let window = c.args.window in
    let chunks = c.args.chunks.now in
    let pixel = c.pixel_at-pixel.result in
    let piece = c.piece_at-piece.result in
    let at = c.pixel_at-pixel.ensures in
    let is = c.piece_at-piece.ensures.piece in
    let fits = columns_fit window.x0 pixel.x window.x1 l.column piece.pixels c.requires.window.columns.ends at.x is.is.in_window in
    record {
      pieces =
          subst (λ (pieces : List Piece). ArePieces window chunks c.args.row (l.column + piece.pixels) pieces) (sym c.in_ok-push.ensures.items)
          (pieces_more window chunks c.args.row l.column l.pieces.items piece pixel.x pixel.y at.x at.y is l.invariant.pieces);
      tallies = c.piece_at-piece.ensures.tallies;
      within = omega (arith, fits, c.width_of-width.ensures.exact);
    }
