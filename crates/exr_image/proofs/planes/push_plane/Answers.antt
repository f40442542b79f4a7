use Rattle.std.proofs.Common.{ℕ, ◌*◌, List, ◌++◌, length, get_or, take, drop, ap, ◌∙◌, arith}
use Rattle.exr_image.specs.Pieces.{ChunkView, place_of, samples_of}
use Rattle.exr_image.proofs.Places.{at_is}
use Rattle.exr_image.proofs.Along.{no_piece, next_piece}
use Rattle.exr_image.proofs.planes.push_plane.Goals as goal

pub samples_in-requires-clause-room : goal.samples_in-requires-clause-room
samples_in-requires-clause-room c =
    let piece = get_or c.args.pieces.now c.loop-piece.piece-index no_piece in
    let has = c.requires c.loop-piece.piece-index no_piece c.loop-piece-test.true in
    let is = at_is c.args.chunks.now piece.chunk c.index-chunks-piece.result has.there c.index-chunks-piece.is in
    let long = ap length c.as_slice.ensures.value ∙ ap (λ (chunk : ChunkView). length chunk.content.samples) is in
    omega (arith, long, has.room)

pub samples_in-requires-clause-small : goal.samples_in-requires-clause-small
samples_in-requires-clause-small c =
    let piece = get_or c.args.pieces.now c.loop-piece.piece-index no_piece in
    let has = c.requires c.loop-piece.piece-index no_piece c.loop-piece-test.true in
    let is = at_is c.args.chunks.now piece.chunk c.index-chunks-piece.result has.there c.index-chunks-piece.is in
    let long = ap length c.as_slice.ensures.value ∙ ap (λ (chunk : ChunkView). length chunk.content.samples) is in
    omega (arith, long, has.small)

pub loop-piece-preserved : goal.loop-piece-preserved
loop-piece-preserved c =
    let n = c.loop-piece.piece-index in
    let pieces = c.args.pieces.now in
    let sizes = c.args.sizes in
    let piece = get_or pieces n no_piece in
    let has = c.requires n no_piece c.loop-piece-test.true in
    let is = at_is c.args.chunks.now piece.chunk c.index-chunks-piece.result has.there c.index-chunks-piece.is in
    let from = c.as_slice.ensures.value ∙ ap (λ (chunk : ChunkView). chunk.content.samples) is in
    c.in_ok-extend_from_slice.ensures.items
    ∙ ap (λ (l : List ℕ). c.loop-piece.plane.items ++ l) (c.samples_in.ensures ∙ ap (λ (l : List ℕ). take (piece.samples * sizes.own) (drop (place_of sizes piece) l)) from)
    ∙ next_piece (samples_of c.args.chunks.now sizes) pieces n no_piece c.args.plane.now.items c.loop-piece.plane.items c.loop-piece-test.true c.loop-piece.invariant
