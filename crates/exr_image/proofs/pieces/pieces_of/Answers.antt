use Rattle.std.proofs.Common.{sym, subst}
use Rattle.exr_image.specs.Pieces.{ArePieces}
use Rattle.exr_image.proofs.Places.{fresh_tallies}
use Rattle.exr_image.proofs.Along.{pieces_none}
use Rattle.exr_image.proofs.pieces.pieces_of.Goals as goal

pub push_rows-requires-clause-tallies : goal.push_rows-requires-clause-tallies
push_rows-requires-clause-tallies c =
    fresh_tallies c.args.chunks.now c.in_ok-tallies.tallies.items c.as_mut_slice.result.now c.as_mut_slice.ensures.value c.in_ok-tallies.ensures.many c.in_ok-tallies.ensures.each

pub push_rows-requires-clause-none : goal.push_rows-requires-clause-none
push_rows-requires-clause-none c = subst (ArePieces c.args.window c.args.chunks.now 0 0) (sym c.new-pieces.ensures.items) (pieces_none c.args.window c.args.chunks.now)
