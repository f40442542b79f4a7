use Rattle.std.proofs.Common.{ℕ, slice_index_or, sym, subst, arith}
use Rattle.exr_image.specs.declared.tally.Tally.{Tally}
use Rattle.exr_image.specs.Pieces.{ChunkView, chunk_at, IsCounted, IsTally, IsPieceIn}
use Rattle.exr_image.proofs.Places.{at_is, tallies_set}
use Rattle.exr_image.proofs.piece.piece_at.Goals as goal

pub piece_of-piece-requires-clause-counted : goal.piece_of-piece-requires-clause-counted
piece_of-piece-requires-clause-counted c =
    let is = at_is c.args.chunks.now c.args.number c.index-chunks-number.result c.requires.there c.index-chunks-number.is in
    subst IsCounted (sym is) (c.requires.counted c.args.number c.requires.there)

pub piece_of-piece-requires-clause-tally : goal.piece_of-piece-requires-clause-tally
piece_of-piece-requires-clause-tally c =
    let is = at_is c.args.chunks.now c.args.number c.index-chunks-number.result c.requires.there c.index-chunks-number.is in
    let none : Tally = record { pixels = 0; samples = 0 } in
    subst (λ (chunk : ChunkView). IsTally chunk.content.counts (slice_index_or c.args.tallies.now c.args.number none)) (sym is) (c.requires.tallies.each c.args.number none c.requires.there)

pub returns-clause-piece : goal.returns-clause-piece
returns-clause-piece c =
    let is = at_is c.args.chunks.now c.args.number c.index-chunks-number.result c.requires.there c.index-chunks-number.is in
    let number = c.piece_of-piece.ensures.chunk in
    record {
      there = omega (arith, number, c.requires.there);
      is =
          subst (λ (n : ℕ). IsPieceIn (chunk_at c.args.chunks.now n) c.args.window c.args.pixel.x c.args.pixel.y c.piece_of-piece.result) (sym number)
          (subst (λ (chunk : ChunkView). IsPieceIn chunk c.args.window c.args.pixel.x c.args.pixel.y c.piece_of-piece.result) is c.piece_of-piece.ensures.piece);
    }

pub returns-clause-tallies : goal.returns-clause-tallies
returns-clause-tallies c =
    let is = at_is c.args.chunks.now c.args.number c.index-chunks-number.result c.requires.there c.index-chunks-number.is in
    tallies_set c.args.chunks.now c.args.tallies.now c.args.number c.piece_of-piece.new.tally c.requires.tallies c.requires.there
    (subst (λ (chunk : ChunkView). IsTally chunk.content.counts c.piece_of-piece.new.tally) is c.piece_of-piece.ensures.tally)
