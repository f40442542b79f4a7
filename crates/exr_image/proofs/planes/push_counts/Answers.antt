use Rattle.std.proofs.Common.{ℕ, List, ◌++◌, length, get_or, take, drop, ap, ◌∙◌, arith}
use Rattle.exr_image.specs.Pieces.{ChunkView, counts_of}
use Rattle.exr_image.proofs.Places.{at_is}
use Rattle.exr_image.proofs.Along.{no_piece, next_piece}
use Rattle.exr_image.proofs.planes.push_counts.Goals as goal

pub counts_in-requires-clause-room : goal.counts_in-requires-clause-room
counts_in-requires-clause-room c =
    let has = c.requires c.loop-piece.piece-index _ c.loop-piece-test.true in
    let is = at_is c.args.chunks.now _ c.index-chunks-piece.result has.there c.index-chunks-piece.is in
    let long = ap length c.as_slice.ensures.value ∙ ap (λ (chunk : ChunkView). length chunk.content.counts) is in
    omega (arith, long, has.room)

pub counts_in-requires-clause-small : goal.counts_in-requires-clause-small
counts_in-requires-clause-small c =
    let has = c.requires c.loop-piece.piece-index _ c.loop-piece-test.true in
    let is = at_is c.args.chunks.now _ c.index-chunks-piece.result has.there c.index-chunks-piece.is in
    let long = ap length c.as_slice.ensures.value ∙ ap (λ (chunk : ChunkView). length chunk.content.counts) is in
    omega (arith, long, has.small)

pub loop-piece-preserved : goal.loop-piece-preserved
loop-piece-preserved c =
    let n = c.loop-piece.piece-index in
    let pieces = c.args.pieces.now in
    let piece = get_or pieces n no_piece in
    let has = c.requires n no_piece c.loop-piece-test.true in
    let is = at_is c.args.chunks.now piece.chunk c.index-chunks-piece.result has.there c.index-chunks-piece.is in
    let from = c.as_slice.ensures.value ∙ ap (λ (chunk : ChunkView). chunk.content.counts) is in
    c.in_ok-extend_from_slice.ensures.items
    ∙ ap (λ (l : List ℕ). c.loop-piece.counts.items ++ l) (c.counts_in.ensures ∙ ap (λ (l : List ℕ). take piece.pixels (drop piece.first l)) from)
    ∙ next_piece (counts_of c.args.chunks.now) pieces n no_piece c.args.counts.now.items c.loop-piece.counts.items c.loop-piece-test.true c.loop-piece.invariant
